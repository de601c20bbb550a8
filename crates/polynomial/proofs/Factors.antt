-- eq as the product of its factors, one after the other. Assumes nothing.
use mathlib.Core.Path.{◌≡◌, sym, ap, ◌∙◌}
use mathlib.Core.List.{List}
use Prim.Native.Nat.{ℕ, ◌+◌}
use native.Mathlib.Numerals.{add-one}
use native.Mathlib.Omega.{arith}
use lib.ListN.{length, get_or}
use Rattle.algebra.specs.Sums.{prod}
use Rattle.algebra.specs.Words.{PrimeField}
use Rattle.algebra.specs.WordLists.{elements, length_elements, get_or_elements}
use Rattle.multilinear.specs.Corners.{eq}
use Rattle.residue.specs.ResidueLaws.{stands}
use Rattle.polynomial.specs.Eq.{factor}

module _ (𝓕 : PrimeField) where
  infixl 65 ◌⊞◌
  infixl 65 ◌⊟◌
  infixl 70 ◌⊠◌
  open 𝓕 use {field as F, words as W}
  open F use {ring as K}
  open K use {R as Element, ◌+◌ as ◌⊞◌, ◌*◌ as ◌⊠◌, ◌-◌ as ◌⊟◌}
  open W use {el, val as word}

  pub factor_word : (z x : ℕ) {b m n w : ℕ} → b ≡ word (el z ⊠ el x) → m ≡ word (el 1 ⊟ el z) → n ≡ word (el 1 ⊟ el x) → w ≡ word (el b ⊞ el m ⊠ el n)
      → w ≡ word (factor 𝓕 (el z) (el x))
  factor_word z x eb em en ew =
      let one = 𝓕.words.el_one in
      ew ∙ (λ i. word (stands 𝓕 _ eb i ⊞ (stands 𝓕 _ em ∙ ap (λ a. a ⊟ el z) one) i ⊠ (stands 𝓕 _ en ∙ ap (λ a. a ⊟ el x) one) i))

  -- the product of the first factors
  abbrev pub factors : List ℕ → List ℕ → ℕ → Element
  factors z x i = prod K i (λ k. factor 𝓕 (get_or (elements 𝓕 z) k K.𝟘) (get_or (elements 𝓕 x) k K.𝟘))

  pub factors_none : (z x : List ℕ) → 1 ≡ word (factors z x 0)
  unfolding prod
  factors_none z x = sym (𝓕.words.val_el 1 (omega (arith, 𝓕.above))) ∙ ap word 𝓕.words.el_one

  pub factors_turn : (z x : List ℕ) (i : ℕ) {e f w : ℕ} → e ≡ word (factors z x i) → f ≡ word (factor 𝓕 (el (get_or z i 0)) (el (get_or x i 0))) → w ≡ word (el e ⊠ el f)
      → w ≡ word (factors z x (i + 1))
  unfolding prod
  factors_turn z x i p q h =
      h ∙ (λ k. word (stands 𝓕 _ p k ⊠ (stands 𝓕 _ q ∙ sym (λ j. factor 𝓕 (get_or_elements 𝓕 z i j) (get_or_elements 𝓕 x i j))) k))
      ∙ ap (λ n. word (factors z x n)) (sym (add-one i))

  pub factors_end : (z x : List ℕ) (i : ℕ) {e : ℕ} → i ≡ length z → e ≡ word (factors z x i) → e ≡ word (eq K (elements 𝓕 z) (elements 𝓕 x))
  unfolding eq
  factors_end z x i h p = p ∙ ap (λ n. word (factors z x n)) (h ∙ sym (length_elements 𝓕 z))
