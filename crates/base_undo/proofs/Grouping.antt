-- The groups, one behind the other. Assumes nothing.
use mathlib.Core.Path.{◌≡◌, sym, ap, ap₂, subst, ◌∙◌}
use mathlib.Core.List.{List, ◌++◌}
use Prim.Native.Nat.{ℕ, suc, ◌+◌, ◌*◌, ◌-◌, ◌<◌, ◌≤◌}
use native.Mathlib.Nat.{one-mul, mul-zero, mul-suc, mul-add, mul-le-mul, mul-le-mul_left}
use native.Mathlib.Numerals.{add-one}
use native.Mathlib.Omega.{arith}
use lib.ListN.{length, take, drop, get_or, length-append, length-take, length-drop}
use lib.Seq.{take_at, drop_at, take-append-le, drop-append-le, get_or-take, get_or-drop, ext_get_or}
use borrow.Rule.Slice.PartMut.{put_mid}
use Rattle.algebra.specs.Filling.{Filled, filled_none, filled_old, filled_length}
use Rattle.algebra.specs.Lists.{row, get_or_row, row_ext}
use Rattle.algebra.specs.Parts.{tail_part, put_tail, filled_part}
use Rattle.inversion.specs.Strides.{stride_next}
use Rattle.job.specs.Limits.{max_message}
use Rattle.base_undo.specs.Steps.{DrawLent, GroupsLent, grouped, column_word}
use Rattle.base_undo.specs.Laws.{length_grouped, group_is}
use Rattle.base_undo.proofs.Drawing.{filled_over}

module _ (k q : ℕ) (old : List ℕ) (𝓖 : GroupsLent k q old) where
  abbrev groups : List ℕ
  groups = grouped k q (column_word k q old)

  abbrev pub new : List ℕ
  new = groups ++ drop (k * q) old

  length_groups : length groups ≡ k * q
  length_groups = length_grouped k q (column_word k q old)

  length_new : length new ≡ length old
  length_new = length-append groups (drop (k * q) old) ∙ omega (arith, length_groups, length-drop (k * q) old, 𝓖.within)

  front : (k - 1) * q + q ≡ k * q
  front = let e : k - 1 + 1 ≡ k = omega (arith, 𝓖.some) in sym (stride_next (k - 1) q) ∙ ap (λ m. m * q) e

  pub bounded : k * q ≤ 4 * max_message
  bounded = mul-le-mul 𝓖.few 𝓖.most

  pub grouped_none : Filled (k * 0) new old old
  grouped_none = rw (mul-zero k) (filled_none new old)

  module _ (j : ℕ) (h : j < q) where
    -- where the words of group j stand: as many places behind group j
    distance : k * j + (k - 1) * (q - j) ≡ (k - 1) * q + j
    distance =
        let e : k - 1 + 1 ≡ k = omega (arith, 𝓖.some) in
        let f : q - j + j ≡ q = omega arith in
        let a : k * j ≡ (k - 1) * j + j = ap (λ m. m * j) (sym e) ∙ stride_next (k - 1) j in
        let b : (k - 1) * q ≡ (k - 1) * (q - j) + (k - 1) * j = ap (λ m. (k - 1) * m) (sym f) ∙ mul-add (k - 1) (q - j) j in
        omega arith

    pub group_within : k * j + k ≤ k * q
    group_within = omega (arith, mul-le-mul_left {m = suc j} {n = q} k h, mul-suc k j)

    pub near : (k - 1) * (q - j) ≤ k * q
    near = omega (arith, distance, front, 𝓖.some)

    module _ (w : List ℕ) (lw : length w ≡ length old) (p : Filled (k * j) new old w) where
      pub start_within : k * j ≤ length w
      start_within = omega (arith, group_within, 𝓖.within)

      abbrev part : List ℕ
      part = take (length w - k * j) (drop (k * j) w)

      length_part : length part ≡ length old - k * j
      length_part = ap length (tail_part (k * j) w) ∙ length-drop (k * j) w ∙ omega arith

      pub drawing : DrawLent k ((k - 1) * (q - j)) q part
      drawing =
          record {
            apart = 𝓖.words;
            most = 𝓖.most;
            within = omega (arith, length_part, start_within, distance, front, 𝓖.within);
          }

      abbrev drawn : List ℕ
      drawn = row k (λ b. get_or part ((k - 1) * (q - j) + b * q) 0)

      -- group j, as it was in the columns
      drawn_is : drawn ≡ take (k * j + k - k * j) (drop (k * j) new)
      drawn_is =
          let n : k ≡ k * j + k - k * j = omega arith in
          row_ext k _ _ at
          ∙ sym (group_is k q (column_word k q old) j h)
          ∙ sym (take-append-le k (drop (k * j) groups) (drop (k * q) old) (omega (arith, length-drop (k * j) groups, length_groups, group_within)))
          ∙ sym (ap (take k) (drop-append-le (k * j) groups (drop (k * q) old) (omega (arith, length_groups, group_within))))
          ∙ ap (λ m. take m (drop (k * j) new)) n
        where
          at : (b : ℕ) → b < k → get_or part ((k - 1) * (q - j) + b * q) 0 ≡ column_word k q old b j
          at b l =
              let e : k * j + ((k - 1) * (q - j) + b * q) ≡ (k - 1) * q + b * q + j = omega (arith, distance) in
              ap (λ v. get_or v ((k - 1) * (q - j) + b * q) 0) (tail_part (k * j) w)
              ∙ get_or-drop (k * j) w ((k - 1) * (q - j) + b * q) 0
              ∙ filled_old p (k * j + ((k - 1) * (q - j) + b * q)) 0 (omega arith)
              ∙ ap (λ i. get_or old i 0) e

      module _ (r : List ℕ) (made : r ≡ drawn ++ drop k part) where
        out_is : put_mid (k * j) (length w - k * j) w r ≡ put_mid (k * j) (k * j + k - k * j) w drawn
        out_is =
            let n : k ≡ k * j + k - k * j = omega arith in
            put_tail (k * j) w r start_within
            ∙ ap (λ v. take (k * j) w ++ v) (made ∙ ap₂ (λ m v. drawn ++ drop m v) n (tail_part (k * j) w))

        pub grouped_turn : Filled (k * (j + 1)) new old (put_mid (k * j) (length w - k * j) w r)
        grouped_turn =
            let n : k * j + k ≡ k * (j + 1) = omega (arith, mul-suc k j, ap (λ m. k * m) (add-one j)) in
            subst (λ m. Filled m new old (put_mid (k * j) (length w - k * j) w r)) n
            (rw out_is (filled_part (k * j + k) 0 drawn p (omega arith) (omega (arith, group_within, 𝓖.within)) length_new drawn_is))

        pub length_out : length (put_mid (k * j) (length w - k * j) w r) ≡ length old
        length_out = filled_length grouped_turn

  pub grouped_end : {out : List ℕ} {j : ℕ} → j ≤ q → q ≤ j → Filled (k * j) new old out → take (k * q) out ≡ groups
  grouped_end {out} {j} h l p =
      let e : j ≡ q = omega arith in
      ap (take (k * q)) (filled_over 0 length_new (drop_at groups (drop (k * q) old) (k * q) length_groups) (rw e at p)) ∙ take_at groups (drop (k * q) old) (k * q) length_groups

  -- one column is its own groups
  pub one_column_lem : k ≡ 1 → take (k * q) old ≡ groups
  one_column_lem e =
      let words : k * q ≡ q = ap (λ c. c * q) e ∙ one-mul q in
      let all : length (take (k * q) old) ≡ k * q = length-take (k * q) old ∙ omega (arith, 𝓖.within) in
      ext_get_or 0 (take (k * q) old) groups (all ∙ sym length_groups)
      (λ i h.
      let in-column : i < q = omega arith in
      let place : k * i + 0 ≡ i = omega (arith, ap (λ c. c * i) e ∙ one-mul i) in
      let word : (k - 1) * q + 0 * q + i ≡ i = omega (arith, ap (λ c. (c - 1) * q) e) in
      get_or-take (k * q) old i 0 (omega arith)
      ∙ ap (λ p. get_or old p 0) (sym word)
      ∙ sym (get_or_row k (λ b. column_word k q old b i) 0 0 𝓖.some)
      ∙ ap (λ v. get_or v 0 0) (sym (group_is k q (column_word k q old) i in-column))
      ∙ get_or-take k (drop (k * i) groups) 0 0 𝓖.some
      ∙ get_or-drop (k * i) groups 0 0
      ∙ ap (λ p. get_or groups p 0) place)
