-- The columns, one behind the other. Assumes nothing.
use mathlib.Core.Path.{◌≡◌, sym, ap, ◌∙◌}
use mathlib.Core.Logic.{⊎_elim}
use mathlib.Core.List.{List}
use Prim.Native.Nat.{ℕ, ◌+◌, ◌*◌, ◌-◌, ◌^◌, ◌<◌, ◌≤◌}
use native.Mathlib.Nat.{mul_comm, mul-le-mul, mul-le-mul_right, add-mul}
use native.Mathlib.Omega.{arith}
use lib.ListN.{length, take, drop, get_or, length-take, length-drop}
use lib.Pow.{pow_pos}
use lib.Seq.{get_or-take, get_or-drop, ext_get_or}
use borrow.Rule.Slice.PartMut.{put_mid, same_len_mid}
use Rattle.algebra.specs.Order.{lt_or_ge}
use Rattle.algebra.specs.Words.{PrimeField}
use Rattle.job.specs.LimitLaws.{power_most}
use Rattle.job.specs.Limits.{max_message}
use Rattle.inversion.specs.Inversion.{gap, gap_inverses}
use Rattle.inversion.specs.InversionLaws.{length_rows, get_or_rows}
use Rattle.inversion.specs.Strides.{stride_next, stride_within}
use Rattle.base_inverses.specs.Inverses.{inverse_word, InvertedTo, DiagonalsLent}
use Rattle.base_undo.specs.Steps.{column_word, undone_words, RowsInput, ColumnsUndone}
use Rattle.base_inverses.proofs.Inverting.{put_within, put_before, put_behind}

module _ (𝓕 : PrimeField) where
  -- before turn a: the columns below a stand undone
  pub record UndoneTo (d k n : ℕ) (t t' b : List ℕ) (a : ℕ) (w : List ℕ) : Type 0 where
    pub at : (i j : ℕ) → i < a → j < 2 ^ d → column_word k (2 ^ d) w i j ≡ get_or (undone_words 𝓕 d n i t t' b) j 0

  pub undone_none : (d k n : ℕ) (t t' b w : List ℕ) → UndoneTo d k n t t' b 0 w
  undone_none d k n t t' b w = record { at = λ i j h l. absurd (omega arith) }

  pub undone_end : {d k n : ℕ} {t t' b w : List ℕ} (a : ℕ) → k ≤ a → UndoneTo d k n t t' b a w → ColumnsUndone 𝓕 d k n t t' b w
  undone_end a e 𝓤 = record { at = λ i j h l. 𝓤.at i j (omega arith) l }

  -- and the inverses of the others stand behind them
  pub record WaitingFrom (k n q : ℕ) (t t' : List ℕ) (a : ℕ) (w : List ℕ) : Type 0 where
    pub at : (i j : ℕ) → a ≤ i → i < k → j < q - 1 → get_or w (k * q + i * q + j) 0 ≡ inverse_word 𝓕 n t t' i j

  pub waiting_all : {k n q : ℕ} {t t' w : List ℕ} → InvertedTo 𝓕 k n q t t' (q - 1) w → WaitingFrom k n q t t' 0 w
  waiting_all 𝓥 = record { at = λ i j h l m. 𝓥.at i j l m }

  module _ (d k n : ℕ) (t t' b : List ℕ) (size : ℕ) (𝓘 : RowsInput 𝓕 d k n t t' b size) (q : ℕ) (en : q ≡ 2 ^ d) where
    -- all of it is small
    pub few : q ≤ max_message
    few = omega (arith, power_most d 𝓘.input.depth)

    twice : (k + k) * q ≤ size
    twice = omega (arith, mul-le-mul_right q 𝓘.narrow, 𝓘.work, ap (λ m. n * m) en)

    pub all : k * q + k * q ≤ size
    all = omega (arith, twice, add-mul k k q)

    pub front : (k - 1) * q + q ≡ k * q
    front = let e : k - 1 + 1 ≡ k = omega (arith, 𝓘.some) in sym (stride_next (k - 1) q) ∙ ap (λ m. m * q) e

    pub bounded : k * q ≤ 4 * max_message
    bounded = mul-le-mul 𝓘.few few

    pub inverting_lent : DiagonalsLent 𝓕 k n q t t' size
    inverting_lent =
        let places : n * (2 ^ d - 1) ≡ (q - 1) * n = mul_comm n (2 ^ d - 1) ∙ ap (λ m. (m - 1) * n) (sym en) in
        record {
          few = 𝓘.few;
          narrow = omega (arith, 𝓘.narrow);
          wide = 𝓘.input.wide;
          some = omega (arith, pow_pos d);
          most = few;
          first = 𝓘.input.first ∙ places;
          second = 𝓘.input.second ∙ places;
          low = 𝓘.input.low;
          low' = 𝓘.input.low';
          apart = 𝓘.input.apart;
          room = all;
        }

    module _ (a s e : ℕ) (w : List ℕ) (lw : length w ≡ size) (es : s ≡ (k - 1) * q + a * q) (ee : e ≡ s + q + q) (h : a < k) where
      -- a column and its inverses have room from s on
      pub room : e ≤ length w
      room = omega (arith, all, front, stride_within a q k h)

      pub below : a < n
      below = omega (arith, 𝓘.narrow)

      abbrev part : List ℕ
      part = take (e - s) (drop s w)

      length_part : length part ≡ e - s
      length_part = length-take (e - s) (drop s w) ∙ omega (arith, length-drop s w, room)

      pub part_room : 2 ^ d + 2 ^ d ≤ length part
      part_room = omega (arith, length_part)

      pub behind : WaitingFrom k n q t t' a w → take (2 ^ d - 1) (drop (2 ^ d) part) ≡ gap_inverses 𝓕 n (2 ^ d - 1) (drop a t) (drop a t')
      behind 𝓥 =
          let f : ℕ → 𝓕.field.ring.R = λ p. 𝓕.field.inv (gap 𝓕 n (drop a t) (drop a t') p) in
          let l : length (take (2 ^ d - 1) (drop (2 ^ d) part)) ≡ 2 ^ d - 1 = length-take (2 ^ d - 1) (drop (2 ^ d) part) ∙ omega (arith, length-drop (2 ^ d) part, part_room) in
          ext_get_or 0 _ _ (l ∙ sym (length_rows 𝓕 (2 ^ d - 1) f))
          (λ i m.
          let p : s + (2 ^ d + i) ≡ k * q + a * q + i = omega (arith, front) in
          get_or-take (2 ^ d - 1) (drop (2 ^ d) part) i 0 (omega arith)
          ∙ get_or-drop (2 ^ d) part i 0
          ∙ get_or-take (e - s) (drop s w) (2 ^ d + i) 0 (omega arith)
          ∙ get_or-drop s w (2 ^ d + i) 0
          ∙ ap (λ x. get_or w x 0) p
          ∙ 𝓥.at a i (omega arith) h (omega arith)
          ∙ sym (get_or_rows 𝓕 (2 ^ d - 1) f i (omega arith)))

      pub next_start : s + q ≡ (k - 1) * q + (a + 1) * q
      next_start = omega (arith, stride_next a q)

      module _ (r : List ℕ) (lr : length r ≡ length part) where
        long : length r ≡ e - s
        long = lr ∙ length_part

        abbrev out : List ℕ
        out = put_mid s (e - s) w r

        pub length_out : length out ≡ size
        length_out = same_len_mid s (e - s) w r lr ∙ lw

        pub undone_turn : UndoneTo d k n t t' b a w → take (2 ^ d) r ≡ undone_words 𝓕 d n a t t' b → UndoneTo d k n t t' b (a + 1) out
        undone_turn 𝓤 u = record { at = at }
          where
            -- a column that stood before is as it was
            before : (i j : ℕ) → i < a → j < 2 ^ d → column_word k (2 ^ d) out i j ≡ get_or (undone_words 𝓕 d n i t t' b) j 0
            before i j l m =
                let p : (k - 1) * 2 ^ d + i * 2 ^ d + j < s = omega (arith, stride_within i (2 ^ d) a l, es ∙ ap (λ x. (k - 1) * x + a * x) en) in
                put_before s e w r (omega arith) room long ((k - 1) * 2 ^ d + i * 2 ^ d + j) p ∙ 𝓤.at i j l m

            here : (j : ℕ) → j < 2 ^ d → column_word k (2 ^ d) out a j ≡ get_or (undone_words 𝓕 d n a t t' b) j 0
            here j m =
                let p : (k - 1) * 2 ^ d + a * 2 ^ d + j ≡ s + j = omega (arith, es ∙ ap (λ x. (k - 1) * x + a * x) en) in
                ap (λ x. get_or out x 0) p ∙ put_within s e w r (omega arith) room long j (omega arith) ∙ sym (get_or-take (2 ^ d) r j 0 m) ∙ ap (λ v. get_or v j 0) u

            at : (i j : ℕ) → i < a + 1 → j < 2 ^ d → column_word k (2 ^ d) out i j ≡ get_or (undone_words 𝓕 d n i t t' b) j 0
            at i j l m =
                ⊎_elim (λ x. before i j x m)
                (λ x. let e : a ≡ i = omega arith in moved i e (here j m)) (lt_or_ge i a)
              where
                moved : (i : ℕ) → a ≡ i → column_word k (2 ^ d) out a j ≡ get_or (undone_words 𝓕 d n a t t' b) j 0 → column_word k (2 ^ d) out i j ≡ get_or (undone_words 𝓕 d n i t t' b) j 0
                moved i e x = rw e at x

        pub waiting_turn : WaitingFrom k n q t t' a w → WaitingFrom k n q t t' (a + 1) out
        waiting_turn 𝓥 =
            record {
              at = λ i j l m x. put_behind s e w r (omega arith) room long (k * q + i * q + j) (omega (arith, front, stride_within a q i (omega arith))) ∙ 𝓥.at i j (omega arith) m x;
            }
