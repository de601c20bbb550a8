-- A fold check by its words. Assumes nothing.
use mathlib.Core.Path.{◌≡◌, ◌∙◌}
use mathlib.Core.List.{List}
use Prim.Native.Nat.{ℕ, ◌+◌}
use native.Mathlib.Omega.{arith}
use lib.Dec.{eqb}
use lib.ListN.{length, get_or}
use Rattle.algebra.specs.Words.{PrimeField}
use Rattle.foldable.specs.Code.{line}
use Rattle.foldable.specs.Line.{line_cross}
use Rattle.basefold.specs.Checks.{same}
use Rattle.residue.specs.Elements.{elem}
use Rattle.residue.specs.ResidueLaws.{stands}
use Rattle.residue.specs.declared.Residue.{Residue}
use Rattle.verdict.specs.Equality.{same_other}
use Rattle.walks.specs.Steps.{LinePoints, FoldAt, line_at}

module _ (𝓕 : PrimeField) where
  infixl 65 ◌⊟◌
  infixl 70 ◌⊠◌
  open 𝓕 use {field as F, words as 𝓦}
  open F use {ring as K}
  open K use {R as Element, ◌*◌ as ◌⊠◌, ◌-◌ as ◌⊟◌}
  open 𝓦 use {el, val as word}

  -- the test of a line by cross multiplication
  pub line_words : (a t t' x y b : Element) {p q s m n k : ℕ} → (t ≡ t' → ⊥) → p ≡ word (t' ⊟ t) → q ≡ word (b ⊟ x) → s ≡ word (el p ⊠ el q) → m ≡ word (a ⊟ t) → n ≡ word (y ⊟ x)
      → k ≡ word (el m ⊠ el n) → eqb s k ≡ same F (line F a t t' x y) b
  line_words a t t' x y b h ep eq es em en ek =
      same_other 𝓕 _ _ (es ∙ (λ i. word (stands 𝓕 _ ep i ⊠ stands 𝓕 _ eq i))) (ek ∙ (λ i. word (stands 𝓕 _ em i ⊠ stands 𝓕 _ en i))) _ _ (line_cross F a b t t' x y h)

  -- the points of a line, as they are read from two blocks
  module _ (a t t' : Residue) (u : ℕ) (w b : List ℕ) (𝓘 : FoldAt 𝓕 a t t' u w b) (w₀ w₁ x : Residue) (e₀ : w₀.0 ≡ get_or w u 0) (e₁ : w₁.0 ≡ get_or w (length b + u) 0) (e : x.0 ≡ get_or b u 0) where
    pub line_points : LinePoints 𝓕 a t t' w₀ w₁ x
    line_points =
        let s = 𝓘.size in
        let p = 𝓘.place in
        record {
          challenge = 𝓘.challenge;
          first = 𝓘.first;
          second = 𝓘.second;
          apart = 𝓘.apart;
          left = rw e₀ (𝓘.upper.low u (omega arith));
          right = rw e₁ (𝓘.upper.low (length b + u) (omega arith));
          below = rw e (𝓘.lower.low u p);
        }

    pub line_is : same F (line F (elem 𝓕 a) (elem 𝓕 t) (elem 𝓕 t') (elem 𝓕 w₀) (elem 𝓕 w₁)) (elem 𝓕 x) ≡ line_at 𝓕 (elem 𝓕 a) (elem 𝓕 t) (elem 𝓕 t') u w b
    line_is = λ i. same F (line F (elem 𝓕 a) (elem 𝓕 t) (elem 𝓕 t') (el (e₀ i)) (el (e₁ i))) (el (e i))
