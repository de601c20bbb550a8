-- The final check with low variables: the polynomial of v at the low ones, times eq of the others and the challenges. Assumes nothing.
use Rattle.std.specs.Prelude.{◌≡◌, refl, ℕ, length}
use Rattle.std.proofs.Common.{sym, ◌∙◌}
use Rattle.std.proofs.Math.Path.{ap, ap₂}
use mathlib.Core.List.{List, [], ◌∷◌, ◌++◌, append-nil}
use Rattle.algebra.specs.Ring.{Ring}
use Rattle.algebra.specs.Algebra.{algebra, quote}
use Rattle.multilinear.specs.Polynomial.{coefficient, poly}
use Rattle.multilinear.specs.Corners.{eq, corners_ext, corners_scale, eq_append, extension}
use Rattle.multilinear.specs.Rounds.{final_sum}

module _ (K : Ring) (low : ℕ) where
  infixl 70 ◌*◌
  open K use {R, ◌*◌, mul_comm}

  -- y the low variables of the point, z the others
  pub final_sum_low : (v y z r : List R) → length y ≡ low → final_sum K low v (y ++ z) r ≡ poly K v y * eq K z r
  unfolding final_sum
  final_sum_low v y z r e =
      rw (← e)
      (corners_ext K (length y) _ (λ c. eq K z r * (poly K v (c ++ []) * eq K y c))
      (λ c h. ap₂ ◌*◌ (ap (poly K v) (sym (append-nil c))) (eq_append K y z c r h)
      ∙ algebra K (poly K v (c ++ []) ∷ eq K y c ∷ eq K z r ∷ []) (search quote depth 20) refl)
      ∙ corners_scale K (length y) (eq K z r) _
      ∙ mul_comm _ _
      ∙ ap (λ (a : R). a * eq K z r) (extension K (coefficient K v) y [] ∙ ap (poly K v) (append-nil y)))
