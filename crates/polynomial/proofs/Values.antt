-- The value of a message by its halves, and by the monomials of the low variables. Assumes nothing.
use mathlib.Core.Path.{◌≡◌, sym, ap, ap₂, ◌∙◌, subst}
use mathlib.Core.List.{List, [], ◌∷◌, ◌++◌}
use Prim.Native.Nat.{ℕ, suc, ◌-◌, ◌/◌, ◌^◌, ◌<◌, ◌≤◌}
use native.Mathlib.Omega.{arith}
use lib.ListN.{length, take, drop, get_or, length-take}
use lib.Pow.{pow_mono}
use lib.Seq.{take_all, take-suc}
use Rattle.algebra.specs.Sums.{sum, sum_ext}
use Rattle.algebra.specs.Words.{PrimeField}
use Rattle.algebra.specs.WordLists.{elements, elements_take, elements_drop, elements_append, length_elements, get_or_elements}
use Rattle.multilinear.specs.Polynomial.{monomial, form, poly, poly_top}
use Rattle.residue.specs.ResidueLaws.{stands}
use Rattle.residue.specs.Sums.{Lent, inner}
use Rattle.polynomial.specs.Lent.{EvaluateInput}
use Rattle.polynomial.specs.LentLaws.{lower, half_is, length_lower, rest}
use Rattle.polynomial.specs.Monomials.{Monomials}
use Rattle.polynomial.specs.MonomialLaws.{monomial_take}

-- the top variable
abbrev pub top : List ℕ → ℕ
top z = get_or z (length z - 1) 0

module _ (𝓕 : PrimeField) where
  infixl 65 ◌⊞◌
  infixl 70 ◌⊠◌
  open 𝓕 use {field as F, words as W}
  open F use {ring as K}
  open K use {◌+◌ as ◌⊞◌, ◌*◌ as ◌⊠◌}
  open W use {el, val as word}

  -- of low variables only: there are monomials enough, and the sum of products is the polynomial as it is defined
  module _ (w m z : List ℕ) (𝓔 : EvaluateInput 𝓕 m z) (𝓜 : Monomials 𝓕 w z) (hi : length z ≤ 6) where
    few : 2 ^ length z ≤ 64
    few = pow_mono {i = length z} {j = 6} hi

    pub lent : Lent m w
    lent = record { long = omega (arith, few, 𝓔.size, 𝓜.size); few = omega (arith, few, 𝓔.size) }

    pub summed : {v : ℕ} → v ≡ word (inner 𝓕 m w) → v ≡ word (poly K (elements 𝓕 m) (elements 𝓕 z))
    unfolding form
    summed e =
        let size : length m ≡ 2 ^ length (elements 𝓕 z) = 𝓔.size ∙ ap (λ k. 2 ^ k) (sym (length_elements 𝓕 z)) in
        e ∙ ap word (ap (λ n. sum K n (λ b. el (get_or m b 0) ⊠ el (get_or w b 0))) size ∙ sum_ext K (2 ^ length (elements 𝓕 z)) _ _ term)
      where
        term : (b : ℕ) → b < 2 ^ length (elements 𝓕 z)
            → el (get_or m b 0) ⊠ el (get_or w b 0) ≡ get_or (elements 𝓕 m) b K.𝟘 ⊠ monomial K b (elements 𝓕 z)
        term b h =
            let l : b < 2 ^ length z = subst (λ k. b < 2 ^ k) (length_elements 𝓕 z) h in
            ap₂ ◌⊠◌ (sym (get_or_elements 𝓕 m b)) (stands 𝓕 _ (𝓜.product b (omega (arith, few)) l))

  -- the monomials are those of the halves too
  pub monomials_lower : (w z : List ℕ) → 0 < length z → Monomials 𝓕 w z → Monomials 𝓕 w (lower z)
  monomials_lower w z lo 𝓜 = record { size = 𝓜.size; product = at }
    where
      at : (b : ℕ) → b < 64 → b < 2 ^ length (lower z) → get_or w b 0 ≡ word (monomial K b (elements 𝓕 (lower z)))
      at b h l =
          let n : length (lower z) ≡ length z - 1 = length-take (length z - 1) z ∙ omega arith in
          let k : b < 2 ^ (length z - 1) = subst (λ j. b < 2 ^ j) n l in
          𝓜.product b h (omega (arith, k, pow_mono {i = length z - 1} {j = length z} (omega arith)))
          ∙ ap word (sym (ap (monomial K b) (elements_take 𝓕 (length z - 1) z)
          ∙ monomial_take K (length z - 1) b (elements 𝓕 z) (omega (arith, length_elements 𝓕 z)) k))

  module _ (m z : List ℕ) (𝓔 : EvaluateInput 𝓕 m z) (lo : 0 < length z) where
    last : lower z ++ (top z ∷ []) ≡ z
    last =
        let q : suc (length z - 1) ≡ length z = omega arith in
        sym (take-suc z (length z - 1) 0 (omega arith)) ∙ ap (λ k. take k z) q ∙ take_all (length z) z (omega arith)

    pub joined : (l r v : ℕ) → l ≡ word (poly K (elements 𝓕 (take (length m / 2) m)) (elements 𝓕 (lower z)))
        → r ≡ word (poly K (elements 𝓕 (take (length m - length m / 2) (drop (length m / 2) m))) (elements 𝓕 (lower z)))
        → v ≡ word (el l ⊞ el (top z) ⊠ el r) → v ≡ word (poly K (elements 𝓕 m) (elements 𝓕 z))
    unfolding elements
    joined l r v el-l el-r e =
        let y = elements 𝓕 (lower z) in
        let x = el (top z) in
        let size : length m / 2 ≡ 2 ^ length y = half_is 𝓕 m z 𝓔 lo ∙ ap (λ k. 2 ^ k) (sym (length_elements 𝓕 (lower z) ∙ length_lower 𝓕 m z 𝓔 lo)) in
        let a : el l ≡ poly K (take (2 ^ length y) (elements 𝓕 m)) y =
        ap el el-l ∙ 𝓕.words.el_val _ ∙ ap (λ w. poly K w y) (elements_take 𝓕 (length m / 2) m ∙ ap (λ k. take k (elements 𝓕 m)) size) in
        let b : el r ≡ poly K (drop (2 ^ length y) (elements 𝓕 m)) y =
        ap el el-r ∙ 𝓕.words.el_val _ ∙ ap (λ w. poly K w y) (ap (elements 𝓕) (rest 𝓕 m z 𝓔 lo) ∙ elements_drop 𝓕 (length m / 2) m ∙ ap (λ k. drop k (elements 𝓕 m)) size) in
        e ∙ ap word (ap₂ (λ s t. s ⊞ x ⊠ t) a b ∙ sym (poly_top K (elements 𝓕 m) y x) ∙ ap (poly K (elements 𝓕 m)) (sym (elements_append 𝓕 (lower z) (top z ∷ [])) ∙ ap (elements 𝓕) last))
