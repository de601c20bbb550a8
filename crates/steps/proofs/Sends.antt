-- The values of h from those of the halves of what is left. Assumes nothing.
use mathlib.Core.Path.{◌≡◌, refl, sym, ap, ap₂, ◌∙◌}
use mathlib.Core.List.{List, [], ◌∷◌}
use Prim.Native.Nat.{ℕ, suc, ◌-◌, ◌/◌, ◌^◌}
use native.Mathlib.Omega.{arith}
use lib.ListN.{length, take, drop, get_or, set}
use Rattle.algebra.specs.Half.{num_el}
use Rattle.algebra.specs.Numerals.{num}
use Rattle.algebra.specs.Words.{PrimeField}
use Rattle.algebra.specs.WordLists.{elements, to_words, elements_take, elements_drop, length_elements, get_or_elements}
use Rattle.multilinear.specs.Polynomial.{poly}
use Rattle.multilinear.specs.Rounds.{h}
use Rattle.polynomial.specs.Eq.{factor}
use Rattle.polynomial.specs.LentLaws.{lower, half_is, rest}
use Rattle.residue.specs.declared.Residue.{Residue}
use Rattle.residue.specs.Elements.{elem}
use Rattle.residue.specs.ResidueLaws.{stands}
use Rattle.steps.specs.Steps.{values, round_of, HalvesInput, HalfValues}
use Rattle.steps.specs.SentLaws.{h_halves}

pub three : (out : List ℕ) (a b c : ℕ) → length out ≡ 3 → set (set (set out 0 a) 1 b) 2 c ≡ a ∷ b ∷ c ∷ []
three [] a b c e = absurd (omega arith)
three (x ∷ []) a b c e = absurd (omega arith)
three (x ∷ y ∷ []) a b c e = absurd (omega arith)
three (x ∷ y ∷ u ∷ []) a b c e = refl
three (x ∷ y ∷ u ∷ v ∷ out) a b c e = absurd (omega arith)

module _ (𝓕 : PrimeField) where
  infixl 65 ◌⊞◌
  infixl 70 ◌⊠◌
  open 𝓕 use {modulus as P, field as F, words as W}
  open F use {ring as K}
  open K use {R as Element, ◌+◌ as ◌⊞◌, ◌*◌ as ◌⊠◌}
  open W use {el, val as word}

  pub product_word : (a b : Element) {p q v : ℕ} → p ≡ word a → q ≡ word b → v ≡ word (el p ⊠ el q) → v ≡ word (a ⊠ b)
  product_word a b ep eq ev = ev ∙ ap₂ (λ x y. word (x ⊠ y)) (stands 𝓕 a ep) (stands 𝓕 b eq)

  module _ (z m : List ℕ) (𝓗 : HalvesInput 𝓕 z m) where
    size_is : length m / 2 ≡ 2 ^ (length (elements 𝓕 z) - 1)
    size_is = half_is 𝓕 m z 𝓗.value 𝓗.top ∙ ap (λ k. 2 ^ (k - 1)) (sym (length_elements 𝓕 z))

    lower_is : elements 𝓕 (lower z) ≡ take (length (elements 𝓕 z) - 1) (elements 𝓕 z)
    lower_is = elements_take 𝓕 (length z - 1) z ∙ ap (λ k. take (k - 1) (elements 𝓕 z)) (sym (length_elements 𝓕 z))

    pub half_values : (l r : Residue) → l.0 ≡ word (poly K (elements 𝓕 (take (length m / 2) m)) (elements 𝓕 (lower z)))
        → r.0 ≡ word (poly K (elements 𝓕 (take (length m - length m / 2) (drop (length m / 2) m))) (elements 𝓕 (lower z)))
        → HalfValues 𝓕 (elements 𝓕 z) (elements 𝓕 m) l r
    half_values l r p q =
        record {
          left_is = p ∙ ap₂ (λ a b. word (poly K a b)) (elements_take 𝓕 (length m / 2) m ∙ ap (λ k. take k (elements 𝓕 m)) size_is) lower_is;
          right_is = q ∙ ap₂ (λ a b. word (poly K a b)) (ap (elements 𝓕) (rest 𝓕 m z 𝓗.value 𝓗.top) ∙ elements_drop 𝓕 (length m / 2) m ∙ ap (λ k. drop k (elements 𝓕 m)) size_is) lower_is;
        }

  -- where y is the top variable
  module _ (w : Residue) (z m : List ℕ) (𝓗 : HalvesInput 𝓕 z m) (l r y : Residue) (𝓥 : HalfValues 𝓕 (elements 𝓕 z) (elements 𝓕 m) l r) (t : y.0 ≡ get_or z (length z - 1) 0) where
    -- the value at the number k, whose word is x
    at : (k : ℕ) {x v : ℕ} → x ≡ k → v ≡ word (elem 𝓕 w ⊠ factor 𝓕 (elem 𝓕 y) (el x) ⊠ (elem 𝓕 l ⊞ el x ⊠ elem 𝓕 r))
        → v ≡ word (round_of 𝓕 (elem 𝓕 w) (elements 𝓕 m) (elements 𝓕 z) (num K k))
    at k p e =
        let Z = elements 𝓕 z in
        let M = elements 𝓕 m in
        let i = length Z - 1 in
        let lz = length_elements 𝓕 z in
        let up : length Z ≡ suc i = omega (arith, 𝓗.top) in
        let lm : length M ≡ 2 ^ suc i = length_elements 𝓕 m ∙ 𝓗.value.size ∙ ap (λ n. 2 ^ n) (sym lz ∙ up) in
        let top : elem 𝓕 y ≡ get_or Z i K.𝟘 = ap el t ∙ sym (get_or_elements 𝓕 z (length z - 1)) ∙ ap (λ n. get_or Z (n - 1) K.𝟘) (sym lz) in
        let A : elem 𝓕 l ≡ poly K (take (2 ^ i) M) (take i Z) = stands 𝓕 _ 𝓥.left_is in
        let B : elem 𝓕 r ≡ poly K (drop (2 ^ i) M) (take i Z) = stands 𝓕 _ 𝓥.right_is in
        let X : el k ≡ num K k = sym (num_el F P 𝓕.words k) in
        e
        ∙ ap word
        ((λ j. elem 𝓕 w ⊠ factor 𝓕 (top j) ((ap el p ∙ X) j) ⊠ (A j ⊞ (ap el p ∙ X) j ⊠ B j))
        ∙ K.mul_assoc (elem 𝓕 w) _ _
        ∙ ap (λ v. elem 𝓕 w ⊠ v) (sym (h_halves K M Z i (num K k) up lm)) ∙ ap (λ n. elem 𝓕 w ⊠ h K 0 M Z [] n (num K k)) (sym up))

    -- all three values; x is the word of the last point
    pub sent : (out : List ℕ) {x a b c : ℕ} → x ≡ 2 → out ≡ a ∷ b ∷ c ∷ []
        → a ≡ word (elem 𝓕 w ⊠ factor 𝓕 (elem 𝓕 y) (el 0) ⊠ (elem 𝓕 l ⊞ el 0 ⊠ elem 𝓕 r))
        → b ≡ word (elem 𝓕 w ⊠ factor 𝓕 (elem 𝓕 y) (el 1) ⊠ (elem 𝓕 l ⊞ el 1 ⊠ elem 𝓕 r))
        → c ≡ word (elem 𝓕 w ⊠ factor 𝓕 (elem 𝓕 y) (el x) ⊠ (elem 𝓕 l ⊞ el x ⊠ elem 𝓕 r))
        → out ≡ to_words 𝓕 (values 𝓕 (round_of 𝓕 (elem 𝓕 w) (elements 𝓕 m) (elements 𝓕 z)))
    unfolding to_words
    sent out two e p q s = e ∙ (λ j. at 0 refl p j ∷ at 1 refl q j ∷ at 2 two s j ∷ [])
