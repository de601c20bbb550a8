-- The numbers and parts of a level of a column, and a column over its two halves. Assumes nothing.
use mathlib.Core.Path.{◌≡◌, refl, sym, ap, ap₂, ◌∙◌}
use mathlib.Core.List.{List, [], ◌∷◌, ◌++◌, append_assoc}
use Prim.Native.Nat.{ℕ, suc, ◌+◌, ◌*◌, ◌-◌, ◌^◌, ◌≤◌, ◌<◌}
use native.Mathlib.Nat.{mul_comm, mul-le-mul, mul-le-mul_right, two-pow-succ}
use native.Mathlib.Numerals.{add-one}
use native.Mathlib.Omega.{arith}
use lib.ListN.{length, take, drop, get_or, set, length-append, length-take, length-drop}
use lib.Pow.{pow_pos, pow_mono}
use lib.Seq.{take_at, drop_at, take-append-add, drop-append-add, drop-drop, get_or-drop}
use borrow.Rule.Slice.PartMut.{put_mid}
use Rattle.algebra.specs.Lists.{row, length_row}
use Rattle.algebra.specs.Parts.{tail_part, put_tail}
use Rattle.algebra.specs.Vector.{vectors}
use Rattle.algebra.specs.Words.{PrimeField}
use Rattle.algebra.specs.WordLists.{Low, low_cons, low_tail, low_take, low_drop, low_append, elements, to_words, words_append}
use Rattle.foldable.specs.Code.{Code}
use Rattle.foldable.specs.Decode.{undo}
use Rattle.foldable.specs.Encode.{below}
use Rattle.foldable.specs.Level.{lines, slopes}
use Rattle.job.specs.Limits.{max_depth, diagonals_size, max_message}
use Rattle.job.specs.LimitLaws.{power_most}
use Rattle.residue.specs.declared.Residue.{Residue}
use Rattle.residue.specs.Elements.{elem}
use Rattle.residue.specs.ResidueLaws.{is_low}
use Rattle.inversion.specs.Strides.{stride_place}
use Rattle.parameters.specs.LentLaws.{level_end, diagonals_mono}
use Rattle.undo.specs.Steps.{longest_base, LevelLent, uncrossed, slope_at, start_at, ColumnHalfIs, ColumnLent, ColumnCode, ColumnUndone}
use Rattle.undo.proofs.Lines.{left, right, slopes_are, starts_are}
use Rattle.undo.proofs.Places.{low_row, get_or_behind}

pub column_half : (d c r : ℕ) → 0 < d → d ≤ max_depth → c ≤ longest_base → r ≡ 2 ^ (d - 1) → (1 ≤ r) × (c * (r - 1) ≤ longest_base * max_message) × ColumnHalfIs d c r (r - 1) (c * (r - 1)) (d - 1)
column_half d c r lo hi wide e =
    let p : 1 ≤ r = omega (arith, pow_pos (d - 1)) in
    let few : r - 1 ≤ max_message = omega (arith, power_most (d - 1) (omega arith)) in
    (p, mul-le-mul wide few, record { low_is = omega arith; half_is = e; skip_is = omega arith; off_is = ap (λ n. c * (n - 1)) e })

module _ (𝓕 : PrimeField) where
  infixl 65 ◌⊟◌
  infixl 70 ◌⊠◌
  infixr 71 ◌⊛◌
  open 𝓕 use {modulus as P, field as F, words as W}
  open F use {ring as K, inv}
  open K use {R as Element, ◌*◌ as ◌⊠◌, ◌-◌ as ◌⊟◌}
  open W use {el, val as word}
  open vectors K use {◌⊛◌}

  -- a code whose inverses stand in w also has them in what holds the same words there, for the levels below
  code_below : (d a c : ℕ) (t w : List ℕ) (C : Code F) → ColumnCode 𝓕 (suc d) a c t w C → (a' : ℕ) (w' : List ℕ) → ((k : ℕ) → k < 2 ^ d - 1 → get_or w' (a' + k) 0 ≡ get_or w (a + k) 0)
      → ColumnCode 𝓕 d a' c t w' C
  code_below d a c t w C 𝓛 a' w' same =
      record {
        one = 𝓛.one;
        legal = below F C d 𝓛.legal;
        first = λ i j h l. 𝓛.first i j (omega arith) l;
        inverse = λ i j h l. ap el (same (2 ^ i - 1 + j) (omega (arith, pow_mono h, two-pow-succ i))) ∙ 𝓛.inverse i j (omega arith) l;
      }

  -- depth 0: one word
  undo_word : (a : ℕ) (x : Residue) (c : ℕ) (t w : List ℕ) → ColumnLent 𝓕 0 a x c t w → (r : ℕ) → r ≡ word (elem 𝓕 x ⊠ el (get_or w 0 0)) → ColumnUndone 𝓕 0 a x c t w (set w 0 r)
  unfolding undo elements to_words
  undo_word a x c t [] 𝓤 r e = absurd (omega (arith, 𝓤.behind, 𝓤.within))
  undo_word a x c t (y ∷ w) 𝓤 r e =
      record {
        words = low_cons (is_low 𝓕 _ e) (low_tail 𝓤.block);
        rest = refl;
        column = λ C 𝓒. ap (λ z. z ∷ []) e;
      }

  pub undo_none : (d a : ℕ) (x : Residue) (c : ℕ) (t w : List ℕ) → ColumnLent 𝓕 d a x c t w → d ≡ 0 → (r : ℕ) → r ≡ word (elem 𝓕 x ⊠ el (get_or w 0 0)) → ColumnUndone 𝓕 d a x c t w (set w 0 r)
  undo_none d a x c t w 𝓤 z r e = rw z (undo_word a x c t w (rw z at 𝓤) r e)

  pub some_words : (d a : ℕ) (x : Residue) (c : ℕ) (t w : List ℕ) → ColumnLent 𝓕 d a x c t w → 0 < length w
  some_words d a x c t w 𝓤 = omega (arith, 𝓤.behind, 𝓤.within, pow_pos d)

  module _ (d a : ℕ) (x : Residue) (c : ℕ) (t w : List ℕ) (𝓤 : ColumnLent 𝓕 d a x c t w) (half skip off low : ℕ) (𝓗 : ColumnHalfIs d c half skip off low) where
    deep : d ≡ suc low
    deep = 𝓗.low_is ∙ add-one low

    whole : 2 ^ d ≡ half + half
    whole = ap (λ k. 2 ^ k) deep ∙ two-pow-succ low ∙ omega (arith, 𝓗.half_is)

    -- what the level's loop is lent
    diagonal_end : off + half * c < length t + c
    diagonal_end =
        omega (arith, 𝓗.off_is, mul_comm half c, ap (λ n. c * n) 𝓗.half_is, level_end c low, ap (diagonals_size c) deep, 𝓤.diagonal)

    pub half_before : half ≤ a
    half_before = omega (arith, 𝓤.behind, whole)

    pub off_within : off ≤ length t
    off_within =
        let one : 1 * c ≤ half * c = mul-le-mul_right c (omega (arith, 𝓗.skip_is)) in
        omega (arith, diagonal_end)

    abbrev part : List ℕ
    part = take (length t - off) (drop off t)

    pub uncrossing : LevelLent 𝓕 half (a + skip) c part w
    uncrossing =
        let e = 𝓗.skip_is in
        let b = 𝓤.behind in
        let n = 𝓤.within in
        record {
          some = 𝓤.some;
          wide = 𝓤.wide;
          diagonal = rw (tail_part off t, length-drop off t) (omega (arith, diagonal_end, off_within));
          behind = omega (arith, whole);
          within = omega (arith, whole);
          low = low_take (length t - off) (low_drop off 𝓤.low);
          block = 𝓤.block;
        }

    module _ (w₁ : List ℕ) (l₁ : length w₁ ≡ length w) (e₁ : w₁ ≡ uncrossed 𝓕 half (a + skip) c part w) where
      abbrev starts : List ℕ
      starts = row half (start_at 𝓕 half (a + skip) c part w)

      abbrev slants : List ℕ
      slants = row half (slope_at 𝓕 half (a + skip) w)

      abbrev others : List ℕ
      others = drop (half + half) w

      parts₁ : w₁ ≡ starts ++ (slants ++ others)
      unfolding uncrossed
      parts₁ = e₁ ∙ append_assoc starts slants others

      take₁ : take half w₁ ≡ starts
      take₁ = ap (take half) parts₁ ∙ take_at starts (slants ++ others) half (length_row half _)

      drop₁ : drop half w₁ ≡ slants ++ others
      drop₁ = ap (drop half) parts₁ ∙ drop_at starts (slants ++ others) half (length_row half _)

      rest₁ : drop (half + half) w₁ ≡ others
      rest₁ = sym (drop-drop half half w₁) ∙ ap (drop half) drop₁ ∙ drop_at slants others half (length_row half _)

      -- the column of the level below, in front
      lower : (a' : ℕ) (v : List ℕ) → half ≤ a' → a' + (half - 1) ≤ length v → Low P v → ColumnLent 𝓕 low a' x c t v
      lower a' v h l b =
          let e = 𝓗.half_is in
          record {
            depth = omega (arith, 𝓤.depth, deep);
            some = 𝓤.some;
            wide = 𝓤.wide;
            unit = 𝓤.unit;
            behind = omega arith;
            within = omega arith;
            diagonal = omega (arith, 𝓤.diagonal, diagonals_mono c low d (omega (arith, deep)));
            low = 𝓤.low;
            block = b;
          }

      low₁ : Low P w₁
      low₁ = rw parts₁ (low_append {v = starts} (low_row 𝓕 half _) (low_append {v = slants} (low_row 𝓕 half _) (low_drop (half + half) 𝓤.block)))

      pub undo_left : ColumnLent 𝓕 low a x c t w₁
      undo_left = lower a w₁ half_before (omega (arith, 𝓤.within, whole)) low₁

      module _ (w₂ : List ℕ) (l₂ : length w₂ ≡ length w₁) (𝓛 : ColumnUndone 𝓕 low a x c t w₁ w₂) where
        abbrev tail : List ℕ
        tail = take (length w₂ - half) (drop half w₂)

        pub half_within : half ≤ length w₂
        half_within = omega (arith, 𝓤.behind, 𝓤.within, whole)

        pub undo_right : ColumnLent 𝓕 low (a - half) x c t tail
        undo_right =
            rw (tail_part half w₂)
            (lower (a - half) (drop half w₂) (omega (arith, 𝓤.behind, whole)) (rw (length-drop half w₂) (omega (arith, 𝓤.behind, 𝓤.within, whole))) (low_drop half 𝓛.words))

        pub length_out : (r : List ℕ) → length r ≡ length tail → length (put_mid half (length w₂ - half) w₂ r) ≡ length w
        length_out r e =
            let l = e ∙ ap length (tail_part half w₂) ∙ length-drop half w₂ in
            ap length (put_tail half w₂ r half_within) ∙ length-append (take half w₂) r ∙ omega (arith, length-take half w₂, half_within)

        tail_is : tail ≡ slants ++ others
        tail_is = tail_part half w₂ ∙ (rw (← 𝓗.half_is) at 𝓛.rest) ∙ drop₁

        module _ (r : List ℕ) (𝓡 : ColumnUndone 𝓕 low (a - half) x c t tail r) where
          abbrev out : List ℕ
          out = put_mid half (length w₂ - half) w₂ r

          out_is : out ≡ take half w₂ ++ r
          out_is = put_tail half w₂ r half_within

          front : length (take half w₂) ≡ half
          front = length-take half w₂ ∙ omega (arith, half_within)

          rest_is : drop (2 ^ d) out ≡ drop (2 ^ d) w
          rest_is =
              ap₂ drop (whole ∙ ap (λ n. n + half) (sym front)) out_is ∙ drop-append-add (take half w₂) r half
              ∙ (rw (← 𝓗.half_is) at 𝓡.rest) ∙ ap (drop half) tail_is ∙ drop_at slants others half (length_row half _)
              ∙ ap (λ n. drop n w) (sym whole)

          module _ (C : Code F) (𝓒 : ColumnCode 𝓕 d a c t w C) where
            abbrev base : List Element → List Element
            base v = elem 𝓕 x ⊛ v

            stood : ColumnCode 𝓕 (suc low) a c t w C
            stood = rw deep at 𝓒

            behind₁ : (k : ℕ) → get_or w₁ (a + k) 0 ≡ get_or w (a + k) 0
            behind₁ k = get_or_behind (half + half) (a + k) w₁ w (omega (arith, 𝓤.behind, whole)) rest₁

            left_code : ColumnCode 𝓕 low a c t w₁ C
            left_code = code_below low a c t w C stood a w₁ (λ k h. behind₁ k)

            right_code : ColumnCode 𝓕 low (a - half) c t tail C
            right_code =
                code_below low a c t w C stood (a - half) tail
                (λ k h. let n : half + (a - half + k) ≡ a + k = omega (arith, 𝓤.behind, whole) in
                ap (λ v. get_or v (a - half + k) 0) (tail_is ∙ sym drop₁) ∙ get_or-drop half w₁ (a - half + k) 0 ∙ ap (λ j. get_or w₁ j 0) n ∙ behind₁ k)

            first : (j : ℕ) → j < 2 ^ low → get_or (C.T low) j K.𝟘 ≡ el (get_or part (j * c) 0)
            first j h =
                stood.first low j (omega arith) h
                ∙ ap el (ap (λ k. get_or t k 0) (stride_place (2 ^ low - 1) j c ∙ ap (λ n. n + j * c) (sym 𝓗.off_is)) ∙ sym (ap (λ v. get_or v (j * c) 0) (tail_part off t) ∙ get_or-drop off t (j * c) 0))

            inverse : (j : ℕ) → j < 2 ^ low → el (get_or w (a + skip + j) 0) ≡ inv (get_or (C.T' low) j K.𝟘 ⊟ get_or (C.T low) j K.𝟘)
            inverse j h =
                let e : a + skip + j ≡ a + (2 ^ low - 1 + j) = omega (arith, 𝓗.half_is, 𝓗.skip_is) in
                ap (λ k. el (get_or w k 0)) e ∙ stood.inverse low j (omega arith) h

            long : 2 ^ suc low ≤ length w
            long = omega (arith, 𝓤.behind, 𝓤.within, ap (λ k. 2 ^ k) deep)

            -- the halves are those of the lines at 0 and of their slopes
            left_is : elements 𝓕 (take (2 ^ low) w₁) ≡ lines F K.𝟘 (C.T low) (C.T' low) (left 𝓕 C low stood.legal stood.one w long) (right 𝓕 C low stood.legal stood.one w long)
            left_is =
                ap (elements 𝓕) (ap (λ n. take n w₁) (sym 𝓗.half_is) ∙ take₁ ∙ ap (λ n. row n (start_at 𝓕 n (a + skip) c part w)) 𝓗.half_is)
                ∙ starts_are 𝓕 C low stood.legal stood.one w long (a + skip) c part first inverse

            right_is : elements 𝓕 (take (2 ^ low) tail) ≡ slopes F (C.T low) (C.T' low) (left 𝓕 C low stood.legal stood.one w long) (right 𝓕 C low stood.legal stood.one w long)
            right_is =
                ap (elements 𝓕)
                (ap₂ take (sym 𝓗.half_is) tail_is ∙ take_at slants others half (length_row half _) ∙ ap (λ n. row n (slope_at 𝓕 n (a + skip) w)) 𝓗.half_is)
                ∙ slopes_are 𝓕 C low stood.legal stood.one w long (a + skip) c part first inverse

            column_is : take (2 ^ d) out ≡ to_words 𝓕 (undo F C base d (elements 𝓕 (take (2 ^ d) w)))
            unfolding undo
            column_is =
                ap₂ take (whole ∙ ap (λ n. n + half) (sym front)) out_is ∙ take-append-add (take half w₂) r half
                ∙ ap₂ ◌++◌
                (ap (λ n. take n w₂) 𝓗.half_is ∙ 𝓛.column C left_code ∙ ap (λ v. to_words 𝓕 (undo F C base low v)) left_is)
                (ap (λ n. take n r) 𝓗.half_is ∙ 𝓡.column C right_code ∙ ap (λ v. to_words 𝓕 (undo F C base low v)) right_is)
                ∙ sym (words_append 𝓕 _ _)
                ∙ ap (λ k. to_words 𝓕 (undo F C base k (elements 𝓕 (take (2 ^ k) w)))) (sym deep)

          pub undone : ColumnUndone 𝓕 d a x c t w out
          undone = record { words = rw out_is (low_append {v = take half w₂} (low_take half 𝓛.words) 𝓡.words); rest = rest_is; column = column_is }
