-- Lines from loose words: what a line's products divide by cancels. Assumes nothing.
use mathlib.Core.Path.{◌≡◌, refl, sym, ap, ◌∙◌}
use mathlib.Core.List.{[], ◌∷◌}
use Prim.Native.Nat.{ℕ}
use Rattle.algebra.specs.Ring.{Ring}
use Rattle.algebra.specs.Algebra.{algebra, quote}
use Rattle.algebra.specs.UnitLaws.{undone_word_lem}
use Rattle.algebra.specs.Words.{𝔽₁, 𝔽₂}
use Rattle.algebra.specs.WordLaws.{same_word}
use Rattle.residue.specs.declared.Field.{Field as Choice}
use Rattle.residue.specs.declared.Field.TheVariants.{First, Second}
use Rattle.residue.specs.Chosen.{chosen}
use Rattle.residue.specs.Elements.{K, el, word, product, reduced_word, sum}
use Rattle.residue.specs.ResidueLaws.{stands}
use Rattle.residue.specs.Scale.{scale, line_scale}
use Rattle.residue.specs.ScaleLaws.{line_unit, first_line}
use Rattle.lines.specs.Steps.{line_by, unscaled}

module _ (R : Ring) where
  infixl 70 ◌⊠◌
  open R use {R as Element, 𝟙, ◌*◌ as ◌⊠◌, mul-one}

  -- y σ = x g and x σ = s d, where i is the inverse of σ σ
  twice_divided : (σ i s d g x y : Element) → σ ⊠ σ ⊠ i ≡ 𝟙 → x ⊠ σ ≡ s ⊠ d → y ⊠ σ ≡ x ⊠ g → y ≡ g ⊠ (i ⊠ s ⊠ d)
  twice_divided σ i s d g x y unit p q =
      sym (mul-one y) ∙ ap (λ a. y ⊠ a) (sym unit) ∙ algebra R (y ∷ σ ∷ i ∷ []) (search quote depth 20) refl ∙ ap (λ a. a ⊠ (σ ⊠ i)) q
      ∙ algebra R (x ∷ g ∷ σ ∷ i ∷ []) (search quote depth 20) refl ∙ ap (λ a. a ⊠ (g ⊠ i)) p
      ∙ algebra R (s ∷ d ∷ g ∷ i ∷ []) (search quote depth 20) refl

-- over the first field a loose word stands for itself
pub unscaled_first : (s : ℕ) → el 𝔽₁ s ≡ unscaled First s
unscaled_first s =
    undone_word_lem (K 𝔽₁) (line_scale First) (𝔽₁.field.inv (line_scale First)) (line_unit First) (ap (λ a. (K 𝔽₁).◌*◌ (el 𝔽₁ s) a) first_line ∙ (K 𝔽₁).mul-one (el 𝔽₁ s))

-- and over either one, for what was scaled
pub unscaled_is : (f : Choice) (s : ℕ) (q : (K (chosen f)).R) → el (chosen f) s ≡ (K (chosen f)).◌*◌ (line_scale f) q → unscaled f s ≡ q
unscaled_is f s q e = sym (undone_word_lem (K (chosen f)) (line_scale f) ((chosen f).field.inv (line_scale f)) (line_unit f) ((K (chosen f)).mul_comm q (line_scale f) ∙ sym e))

module _ (a t s u v : ℕ) where
  infixl 65 ◌⊞◌
  infixl 65 ◌⊟◌
  infixl 70 ◌⊠◌
  open K 𝔽₂ use {◌+◌ as ◌⊞◌, ◌*◌ as ◌⊠◌, ◌-◌ as ◌⊟◌}

  -- one place of a line over the second field, from its words
  pub second_word : (x y : ℕ) {d g z r : ℕ} → d ≡ word 𝔽₂ (el 𝔽₂ v ⊟ el 𝔽₂ u) → g ≡ word 𝔽₂ (el 𝔽₂ a ⊟ el 𝔽₂ t) → product 𝔽₂ x (scale Second) ≡ product 𝔽₂ s d
      → product 𝔽₂ y (scale Second) ≡ product 𝔽₂ x g → z ≡ reduced_word 𝔽₂ y → r ≡ sum 𝔽₂ u z
      → r ≡ word 𝔽₂ (line_by 𝔽₂ (el 𝔽₂ a) (el 𝔽₂ t) (unscaled Second s) (el 𝔽₂ u) (el 𝔽₂ v))
  second_word x y p q m k c e =
      let σ = el 𝔽₂ (scale Second) in
      let i = 𝔽₂.field.inv (line_scale Second) in
      let first : el 𝔽₂ x ⊠ σ ≡ el 𝔽₂ s ⊠ (el 𝔽₂ v ⊟ el 𝔽₂ u) = same_word 𝔽₂ m ∙ ap (λ b. el 𝔽₂ s ⊠ b) (stands 𝔽₂ _ p) in
      let next : el 𝔽₂ y ⊠ σ ≡ el 𝔽₂ x ⊠ (el 𝔽₂ a ⊟ el 𝔽₂ t) = same_word 𝔽₂ k ∙ ap (λ b. el 𝔽₂ x ⊠ b) (stands 𝔽₂ _ q) in
      e ∙ ap (λ b. word 𝔽₂ (el 𝔽₂ u ⊞ b)) (stands 𝔽₂ _ c ∙ twice_divided (K 𝔽₂) σ i (el 𝔽₂ s) (el 𝔽₂ v ⊟ el 𝔽₂ u) (el 𝔽₂ a ⊟ el 𝔽₂ t) (el 𝔽₂ x) (el 𝔽₂ y) (line_unit Second) first next)
