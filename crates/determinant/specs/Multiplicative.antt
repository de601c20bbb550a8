-- The determinant of a product is the product of the determinants, and that of the identity is 1. Assumes nothing.
use Rattle.std.specs.Prelude.{Bool, true, false, ◌≡◌, replicate}
use Rattle.std.proofs.Math.Path.{refl, ap, ap₂}
use Rattle.std.proofs.Common.{sym, ◌∙◌}
use mathlib.Core.List.{List, [], ◌∷◌, map}
use Prim.Native.Nat.{ℕ, zero, suc}
use Rattle.algebra.specs.Ring.{Ring}
use Rattle.algebra.specs.Algebra.{algebra, quote}
use Rattle.algebra.specs.Lists.{row}
use Rattle.determinant.specs.Inverse.{Square, product, identity}
use Rattle.determinant.specs.Determinant.{det}
use Rattle.determinant.specs.Products.{square_identity, square_product, identity_suc}
use Rattle.determinant.specs.Wedge.{unit, wedge, wedges, wedge_ext, zeros_wedge}
use Rattle.determinant.specs.Image.{multiplicative}
use Rattle.determinant.specs.Expansion.{det_wedges}

module _ (K : Ring) where
  infixl 65 ◌-◌
  infixl 70 ◌*◌
  open K use {R, ◌*◌, ◌-◌, 𝟘, 𝟙}

  -- det(A M) = det(A) det(M)
  pub det_product : (k : ℕ) (A M : List (List R)) → Square k A → Square k M → det K k (product K k A M) ≡ det K k A * det K k M
  det_product k A M a m =
      let q = square_product K k A M a m in
      det_wedges K k (product K k A M) q.rows q.wide ∙ multiplicative K k k A M a.rows m.rows a.wide m.wide (replicate k true)
      ∙ sym (ap₂ ◌*◌ (det_wedges K k A a.rows a.wide) (det_wedges K k M m.rows m.wide))

  -- a column of zeros in front
  wedges_shift : (A : List (List R)) (s : List Bool) → wedges K (map (λ v. 𝟘 ∷ v) A) (false ∷ s) ≡ wedges K A s
  unfolding wedges wedge unit
  wedges_shift [] s = refl
  wedges_shift (v ∷ A) s = wedge_ext K v s (wedges_shift A)

  wedges_identity : (k : ℕ) → wedges K (identity K k) (replicate k true) ≡ 𝟙
  unfolding wedges wedge identity row unit
  wedges_identity zero = refl
  wedges_identity (suc k) =
      ap (λ I. wedges K I (replicate (suc k) true)) (identity_suc K k)
      ∙ ap₂ (λ x y. 𝟙 * x - y) (wedges_shift (identity K k) (replicate k true) ∙ wedges_identity k) (zeros_wedge K k _ (replicate k true))
      ∙ algebra K [] (search quote depth 20) refl

  -- det(I) = 1
  pub det_identity : (k : ℕ) → det K k (identity K k) ≡ 𝟙
  det_identity k = let q = square_identity K k in det_wedges K k (identity K k) q.rows q.wide ∙ wedges_identity k
