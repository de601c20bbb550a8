-- One column of the base blocks of a message. Assumes nothing.
use mathlib.Core.Path.{◌≡◌, refl, sym, ap, ap₂, ◌∙◌}
use mathlib.Core.List.{List, ◌++◌}
use Prim.Native.Nat.{ℕ, ◌+◌, ◌*◌, ◌-◌, ◌<◌, ◌≤◌}
use native.Mathlib.Nat.{zero-mul}
use native.Mathlib.Numerals.{add-one}
use native.Mathlib.Omega.{arith}
use lib.ListN.{length, take, drop, get_or, set, length-append, length-take, length-drop, length-replicate, get_or-replicate, replicate}
use lib.Seq.{paste, paste-zero, paste-suc, length-paste, take_at, take-take, take-append-le, get_or-take, get_or-drop}
use Rattle.algebra.specs.Lists.{length_row, get_or_row}
use Rattle.algebra.specs.Matrix.{times}
use Rattle.algebra.specs.Words.{PrimeField}
use Rattle.algebra.specs.WordLists.{low_take, low_drop, low_words, elements, to_words, get_or_words, val_zero, modulus_pos}
use Rattle.residue.specs.Elements.{sum_product}
use Rattle.cofactor.specs.Rows.{rows}
use Rattle.cofactor.specs.RowLaws.{row_within}
use Rattle.row_sums.specs.Sums.{added_scaled}
use Rattle.row_sums.proofs.Adding.{added_at}
use Rattle.base_block.specs.Blocks.{BlockLent, block_of}
use Rattle.base_block.proofs.Summing.{Summed, summed_length, summed_turn, summed_end}
use Rattle.halves_step.proofs.Places.{part_front}
use Rattle.base_halves_step.proofs.Spreading.{turn_within}
use Rattle.base_same.specs.Steps.{WordLent, column_words, BaseLent}

module _ (𝓕 : PrimeField) where
  open 𝓕 use {modulus as P, field as F, words as W}
  open F use {ring as K}
  open K use {𝟘}
  open W use {val as word}

  -- the first b words of m times their rows
  abbrev summed : ℕ → ℕ → List ℕ → List ℕ → List ℕ
  summed b n g m = to_words 𝓕 (times K n (take b (elements 𝓕 m)) (rows 𝓕 (length m) n g))

  -- before turn b: word j of that
  pub record WordTo (n j : ℕ) (g m : List ℕ) (b s : ℕ) : Type 0 where
    pub is : s ≡ get_or (summed b n g m) j 0

  module _ (n j : ℕ) (g m : List ℕ) (𝓦 : WordLent 𝓕 n j g m) where
    abbrev zeros : List ℕ
    zeros = replicate n 0

    lent : BlockLent 𝓕 n g m zeros
    lent = record { lent = 𝓦.lent; low = 𝓦.low; size = length-replicate n 0 }

    pub word_none : WordTo n j g m 0 0
    unfolding times
    word_none = record { is = sym (get_or_words 𝓕 _ j ∙ ap word (get_or-replicate n j 𝟘 𝟘 𝓦.column) ∙ val_zero 𝓕 (modulus_pos 𝓕)) }

    module _ (b s p : ℕ) (h : b < length m) (at : p ≡ j + b * n) (w : WordTo n j g m b s) where
      sum : Summed 𝓕 b n g m (summed b n g m)
      sum = record { is = refl }

      long : length (summed b n g m) ≡ n
      long = summed_length 𝓕 n g m zeros lent sum

      pub word_low : s < P
      word_low = rw w.is ((low_words 𝓕 _).low j (omega (arith, long, 𝓦.column)))

      pub entry_within : p < length g
      entry_within = omega (arith, row_within (length m) n b h, 𝓦.lent.long, 𝓦.column)

      pub entry_next : p + n ≤ length g + length g
      entry_next = omega (arith, row_within (length m) n b h, 𝓦.lent.long, 𝓦.column)

      pub entry_low : get_or g p 0 < P
      entry_low = 𝓦.lent.low.low p entry_within

      abbrev row_of : List ℕ
      row_of = take (b * n + n - b * n) (drop (b * n) g)

      length_row_of : length row_of ≡ n
      length_row_of = length-take (b * n + n - b * n) (drop (b * n) g) ∙ omega (arith, length-drop (b * n) g, row_within (length m) n b h, 𝓦.lent.long)

      entry_is : get_or g p 0 ≡ get_or row_of j 0
      entry_is =
          let e : p ≡ b * n + j = omega arith in
          ap (λ i. get_or g i 0) e ∙ sym (get_or-take (b * n + n - b * n) (drop (b * n) g) j 0 (omega (arith, 𝓦.column)) ∙ get_or-drop (b * n) g j 0)

      pub word_turn : (v : ℕ) → v ≡ sum_product 𝓕 s (get_or m b 0) (get_or g p 0) → WordTo n j g m (b + 1) v
      word_turn v e =
          let next = summed_turn 𝓕 n g m zeros lent b (b * n) (b * n + n) h refl refl (added_scaled 𝓕 (get_or m b 0) row_of (summed b n g m)) refl sum refl in
          record {
            is =
                e
                ∙ ap₂ (λ x y. sum_product 𝓕 x (get_or m b 0) y) w.is entry_is
                ∙ sym (added_at 𝓕 (get_or m b 0) row_of (summed b n g m) (long ∙ sym length_row_of) j (omega (arith, length_row_of, 𝓦.column)))
                ∙ ap (λ u. get_or u j 0) next.is;
          }

    pub word_end : (b s : ℕ) → length m ≤ b → WordTo n j g m b s → s ≡ get_or (block_of 𝓕 n g m) j 0
    word_end b s h w = w.is ∙ ap (λ u. get_or u j 0) (summed_end 𝓕 n g m zeros lent h (record { is = refl }))

  module _ (k n q j : ℕ) (g o : List ℕ) (𝓑 : BaseLent 𝓕 k n q j g o) where
    abbrev h : ℕ
    h = k * q

    abbrev X : List ℕ
    X = column_words 𝓕 k n q j g (take (k * q) o)

    length_X : length X ≡ q
    length_X = length_row q _

    front : length (take h o) ≡ h
    front = length-take h o ∙ omega (arith, 𝓑.room)

    pub column_none : o ≡ paste o h X 0
    column_none = paste-zero o h X

    module _ (i a : ℕ) (w : List ℕ) (at : a ≡ k * i) (p : w ≡ paste o h X i) where
      pub column_length : i ≤ q → length w ≡ length o
      column_length l = ap length p ∙ length-paste o h X i (omega (arith, 𝓑.room)) (omega (arith, length_X))

      kept : take h w ≡ take h o
      kept =
          ap (take h) p
          ∙ take-append-le h (take h o ++ take i X) (drop (h + i) o) (omega (arith, length-append (take h o) (take i X), front))
          ∙ take_at (take h o) (take i X) h front

      module _ (l : i < q) where
        pub group_within : a + k ≤ h
        group_within = omega (arith, turn_within k i q l)

        group_is : take (a + k - a) (drop a w) ≡ take k (drop (k * i) (take h o))
        group_is =
            let e : a + k - a ≡ k = omega arith in
            ap (λ m. take m (drop a w)) e
            ∙ sym (part_front h (take h w) w (take-take h h w (omega arith)) a k group_within)
            ∙ ap₂ (λ m u. take k (drop m u)) at kept

        length_group : length (take (a + k - a) (drop a w)) ≡ k
        length_group = length-take (a + k - a) (drop a w) ∙ omega (arith, length-drop a w, group_within, column_length (omega arith), 𝓑.room)

        pub word_lent : WordLent 𝓕 n j g (take (a + k - a) (drop a w))
        word_lent = record { lent = rw length_group 𝓑.lent; low = rw group_is (low_take k (low_drop (k * i) 𝓑.message)); column = 𝓑.column }

        pub column_turn : (v : ℕ) → v ≡ get_or (block_of 𝓕 n g (take (a + k - a) (drop a w))) j 0 → set w (h + i) v ≡ paste o h X (i + 1)
        column_turn v e =
            ap₂ (λ u x. set u (h + i) x) p
            (e ∙ ap (λ u. get_or (block_of 𝓕 n g u) j 0) group_is ∙ sym (get_or_row q (λ i. get_or (block_of 𝓕 n g (take k (drop (k * i) (take h o)))) j 0) i 0 l))
            ∙ paste-suc o h X i 0 (omega (arith, 𝓑.room)) (omega (arith, length_X))
            ∙ ap (paste o h X) (sym (add-one i))

      pub column_end : i ≤ q → q ≤ i → w ≡ paste o h X q
      column_end l m = let e : i ≡ q = omega arith in p ∙ ap (paste o h X) e

  -- base messages of one word
  module _ (n q j : ℕ) (g o : List ℕ) (𝓑 : BaseLent 𝓕 1 n q j g o) (i : ℕ) (w : List ℕ) (p : w ≡ paste o (1 * q) (column_words 𝓕 1 n q j g (take (1 * q) o)) i) (l : i < q) where
    one : i ≡ 1 * i
    one = omega arith

    abbrev group : List ℕ
    group = take (i + 1 - i) (drop i w)

    alone : get_or group 0 0 ≡ get_or w i 0
    alone = let e : i + 0 ≡ i = omega arith in get_or-take (i + 1 - i) (drop i w) 0 0 (omega arith) ∙ get_or-drop i w 0 0 ∙ ap (λ a. get_or w a 0) e

    lent₁ : WordLent 𝓕 n j g group
    lent₁ = word_lent 1 n q j g o 𝓑 i i w one p l

    single : length group ≡ 1
    single = length_group 1 n q j g o 𝓑 i i w one p l

    pub scaled_low : get_or w i 0 < P
    scaled_low = rw (sym alone) (lent₁.low.low 0 (omega (arith, single)))

    pub scaled_turn : (v : ℕ) → v ≡ sum_product 𝓕 0 (get_or w i 0) (get_or g j 0) → set w (q + i) v ≡ paste o (1 * q) (column_words 𝓕 1 n q j g (take (1 * q) o)) (i + 1)
    scaled_turn v e =
        let place : q + i ≡ 1 * q + i = omega arith in
        let turn = word_turn n j g group lent₁ 0 0 j (omega (arith, single)) (omega (arith, zero-mul n)) (word_none n j g group lent₁) v (e ∙ ap (λ x. sum_product 𝓕 0 x (get_or g j 0)) (sym alone)) in
        ap (λ a. set w a v) place ∙ column_turn 1 n q j g o 𝓑 i i w one p l v (word_end n j g group lent₁ 1 v (omega (arith, single)) turn)
