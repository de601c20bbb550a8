-- A block of two halves is the codeword of a message of two halves exactly where the right half peeled off gives its second half, and leaves the codeword of the
-- left half; as tests of words. Assumes nothing.
use mathlib.Core.Path.{◌≡◌, refl, sym, ap, ap₂, ◌∙◌}
use mathlib.Core.Logic.{◌↔◌}
use mathlib.Core.Bool.{Bool, true, false, ◌&&◌}
use mathlib.Core.List.{List, ◌++◌}
use Prim.Native.Nat.{ℕ, suc, ◌+◌, ◌*◌, ◌^◌}
use native.Mathlib.Omega.{arith}
use lib.ListN.{length, length-append}
use Rattle.algebra.specs.Tests.{and_both, all_same, same_is, is_same}
use Rattle.algebra.specs.Vector.{vectors}
use Rattle.algebra.specs.Words.{PrimeField}
use Rattle.algebra.specs.WordLists.{Low, low_append, low_words, elements, to_words, length_elements, length_words_lem, elements_words, words_elements, elements_append}
use Rattle.foldable.specs.Code.{encode}
use Rattle.foldable.specs.Encode.{double, below, length_encode}
use Rattle.foldable.specs.Peel.{peel, peel_encode}
use Rattle.job.specs.Limits.{block_size}
use Rattle.parameters.specs.Lent.{diagonal}
use Rattle.parameters.specs.LentLaws.{diagonals_mono, length_diagonal}
use Rattle.cofactor.specs.Rows.{rows}
use Rattle.cofactor.specs.RowLaws.{rows_count}
use Rattle.base_spread.specs.LentRows.{lent_rows, codeword_rows, RowCoding}
use Rattle.halves_step.specs.Steps.{peeled, raised}
use Rattle.halves_step.proofs.Peeling.{length_peeled, length_raised}

-- two tests that hold together
both_ways : (a b : Bool) → (a ≡ true → b ≡ true) → (b ≡ true → a ≡ true) → a ≡ b
both_ways true b f g = sym (f refl)
both_ways false true f g = g refl
both_ways false false f g = refl

module _ (𝓕 : PrimeField) where
  infixl 66 ◌⊕◌
  infixl 70 ◌⊙◌
  open 𝓕 use {modulus as P, field as F}
  open F use {ring as K}
  open K use {R as Element}
  open vectors K use {◌⊕◌, ◌⊙◌}

  pub rows_below : (d : ℕ) {k n : ℕ} {g t t' : List ℕ} → RowCoding 𝓕 (suc d) k n g t t' → RowCoding 𝓕 d k n g t t'
  rows_below d {k} {n} {g} {t} {t'} 𝓒 =
      let less = diagonals_mono n d (suc d) (omega arith) in
      let a = 𝓒.first in
      let b = 𝓒.second in
      record { lent = 𝓒.lent; first = omega arith; second = omega arith; low = 𝓒.low; low' = 𝓒.low'; legal = below F (lent_rows 𝓕 k n g t t') d 𝓒.legal }

  module _ (i k n : ℕ) (g t t' : List ℕ) (𝓒 : RowCoding 𝓕 (suc i) k n g t t') where
    abbrev first : List ℕ
    first = diagonal n t i

    abbrev second : List ℕ
    second = diagonal n t' i

    rows_are : length (rows 𝓕 k n g) ≡ k
    rows_are = rows_count 𝓕 k n g 𝓒.lent.few (omega (arith, 𝓒.lent.long))

    length_codeword : (m : List ℕ) → length (codeword_rows 𝓕 i k n g t t' m) ≡ block_size n i
    length_codeword m = length_words_lem 𝓕 _ ∙ length_encode F (lent_rows 𝓕 k n g t t') i (rows_below i 𝓒).legal _

    module _ (l r u v : List ℕ) (ll : length l ≡ k * 2 ^ i) (lu : length u ≡ block_size n i) (lv : length v ≡ block_size n i) (low : Low P u) (low' : Low P v) where
      abbrev right : List ℕ
      right = codeword_rows 𝓕 i k n g t t' r

      abbrev left : List ℕ
      left = peeled 𝓕 u first right

      -- the same over the field
      abbrev E : List Element
      E = encode F (lent_rows 𝓕 k n g t t') i (elements 𝓕 r)

      abbrev L : List Element
      L = peel F (elements 𝓕 u) (elements 𝓕 first) E

      left_is : left ≡ to_words 𝓕 L
      unfolding peeled
      left_is = ap (λ w. to_words 𝓕 (peel F (elements 𝓕 u) (elements 𝓕 first) w)) (elements_words 𝓕 E)

      raised_is : raised 𝓕 left second right ≡ to_words 𝓕 (L ⊕ elements 𝓕 second ⊙ E)
      unfolding raised
      raised_is = ap₂ (λ a b. to_words 𝓕 (a ⊕ elements 𝓕 second ⊙ b)) (ap (elements 𝓕) left_is ∙ elements_words 𝓕 L) (elements_words 𝓕 E)

      pub length_left : length left ≡ block_size n i
      length_left =
          length_peeled 𝓕 (block_size n i) u first right lu (length_diagonal n (suc i) i t (omega arith) 𝓒.first) (length_codeword r)

      length_second : length (raised 𝓕 left second right) ≡ block_size n i
      length_second =
          length_raised 𝓕 (block_size n i) left second right length_left (length_diagonal n (suc i) i t' (omega arith) 𝓒.second) (length_codeword r)

      law : (encode F (lent_rows 𝓕 k n g t t') (suc i) (elements 𝓕 l ++ elements 𝓕 r) ≡ elements 𝓕 u ++ elements 𝓕 v)
          ↔ ((encode F (lent_rows 𝓕 k n g t t') i (elements 𝓕 l) ≡ L) × (L ⊕ elements 𝓕 second ⊙ E ≡ elements 𝓕 v))
      law =
          peel_encode F (lent_rows 𝓕 k n g t t') i 𝓒.legal (elements 𝓕 l) (elements 𝓕 r) (elements 𝓕 u) (elements 𝓕 v)
          (length_elements 𝓕 l ∙ ll ∙ ap (λ c. c * 2 ^ i) (sym rows_are)) (length_elements 𝓕 u ∙ lu)

      whole_elements : elements 𝓕 (codeword_rows 𝓕 (suc i) k n g t t' (l ++ r)) ≡ encode F (lent_rows 𝓕 k n g t t') (suc i) (elements 𝓕 l ++ elements 𝓕 r)
      whole_elements = elements_words 𝓕 _ ∙ ap (encode F (lent_rows 𝓕 k n g t t') (suc i)) (elements_append 𝓕 l r)

      pub same_step : all_same (codeword_rows 𝓕 (suc i) k n g t t' (l ++ r)) (u ++ v) ≡ (all_same (raised 𝓕 left second right) v && all_same (codeword_rows 𝓕 i k n g t t' l) left)
      same_step = both_ways _ _ forth back
        where
          length_whole : length (codeword_rows 𝓕 (suc i) k n g t t' (l ++ r)) ≡ length (u ++ v)
          length_whole =
              length_words_lem 𝓕 _ ∙ length_encode F (lent_rows 𝓕 k n g t t') (suc i) 𝓒.legal _ ∙ double n i
              ∙ sym (length-append u v ∙ ap₂ ◌+◌ lu lv)

          forth : all_same (codeword_rows 𝓕 (suc i) k n g t t' (l ++ r)) (u ++ v) ≡ true → (all_same (raised 𝓕 left second right) v && all_same (codeword_rows 𝓕 i k n g t t' l) left) ≡ true
          forth e =
              let w = same_is (codeword_rows 𝓕 (suc i) k n g t t' (l ++ r)) (u ++ v) length_whole e in
              let p = law.0 (sym whole_elements ∙ ap (elements 𝓕) w ∙ elements_append 𝓕 u v) in
              ap₂ ◌&&◌ (is_same (raised 𝓕 left second right) v (raised_is ∙ ap (to_words 𝓕) p.1 ∙ words_elements 𝓕 v low'))
              (is_same (codeword_rows 𝓕 i k n g t t' l) left (ap (to_words 𝓕) p.0 ∙ sym left_is))

          back : (all_same (raised 𝓕 left second right) v && all_same (codeword_rows 𝓕 i k n g t t' l) left) ≡ true → all_same (codeword_rows 𝓕 (suc i) k n g t t' (l ++ r)) (u ++ v) ≡ true
          back e =
              let b = and_both (all_same (raised 𝓕 left second right) v) (all_same (codeword_rows 𝓕 i k n g t t' l) left) e in
              let x : elements 𝓕 (codeword_rows 𝓕 i k n g t t' l) ≡ elements 𝓕 left = ap (elements 𝓕) (same_is (codeword_rows 𝓕 i k n g t t' l) left (length_codeword l ∙ sym length_left) b.1) in
              let y : raised 𝓕 left second right ≡ v = same_is (raised 𝓕 left second right) v (length_second ∙ sym lv) b.0 in
              let p = law.1 (
                sym (elements_words 𝓕 _) ∙ x ∙ ap (elements 𝓕) left_is ∙ elements_words 𝓕 L,
                sym (elements_words 𝓕 _) ∙ ap (elements 𝓕) (sym raised_is ∙ y),
              ) in
              is_same (codeword_rows 𝓕 (suc i) k n g t t' (l ++ r)) (u ++ v)
              (ap (λ w. to_words 𝓕 (encode F (lent_rows 𝓕 k n g t t') (suc i) w)) (elements_append 𝓕 l r) ∙ ap (to_words 𝓕) (p ∙ sym (elements_append 𝓕 u v))
              ∙ words_elements 𝓕 (u ++ v) (low_append {v = u} {w = v} low low'))

  -- what is left is words below the modulus
  pub peeled_low : (u t r : List ℕ) → Low P (peeled 𝓕 u t r)
  unfolding peeled
  peeled_low u t r = low_words 𝓕 _
