-- h from what is left of the message. Assumes nothing.
use Rattle.std.specs.Prelude.{◌≡◌, List, [], ℕ, suc, ◌+◌ as ◌+ℕ◌, ◌^◌, ◌≤◌, length, take, drop, get_or}
use Rattle.std.proofs.Common.{sym, ap, ◌∙◌, zero-add, arith, drop_of_length-le}
use Rattle.std.proofs.Math.Seq.{drop-nil}
use Rattle.algebra.specs.Ring.{Ring, one-mul}
use Rattle.algebra.specs.Lists.{row_ext, row_get_or}
use Rattle.multilinear.specs.Polynomial.{coefficient, poly, fixed_nil}
use Rattle.multilinear.specs.Corners.{eq_nil}
use Rattle.multilinear.specs.Rounds.{h}
use Rattle.multilinear.specs.Folding.{folded, h_folded}

module _ (K : Ring) where
  infixl 65 ◌+◌
  infixl 65 ◌-◌
  infixl 70 ◌*◌
  open K use {R, ◌+◌, ◌*◌, ◌-◌, 𝟘, 𝟙}

  -- with no challenge put in, all of the message is left
  folded_none : (m z : List R) (i : ℕ) → length m ≡ 2 ^ (0 +ℕ i) → folded K 0 m z [] i ≡ m
  unfolding folded
  folded_none m z i e = rw (drop-nil i, ← e) (row_ext (length m) _ _ (λ a l. fixed_nil K (0 +ℕ i) (coefficient K m) a) ∙ row_get_or m 𝟘)

  -- h in all variables of a message, from its halves
  pub h_halves : (m y : List R) (i : ℕ) (X : R) → length y ≡ suc i → length m ≡ 2 ^ suc i
      → h K 0 m y [] (suc i) X
      ≡ (get_or y i 𝟘 * X + (𝟙 - get_or y i 𝟘) * (𝟙 - X)) * (poly K (take (2 ^ i) m) (take i y) + X * poly K (drop (2 ^ i) m) (take i y))
  h_halves m y i X ly lm =
      h_folded K 0 m y [] i X (omega arith)
      ∙ rw (zero-add i, folded_none m y (suc i) (lm ∙ ap (λ n. 2 ^ n) (sym (zero-add (suc i)))), drop_of_length-le y (over i ly), eq_nil K (drop (suc i) []))
      (ap (λ (t : R). t * (poly K (take (2 ^ i) m) (take i y) + X * poly K (drop (2 ^ i) m) (take i y))) (one-mul K _))
    where
      over : (i : ℕ) → length y ≡ suc i → length y ≤ suc i
      over i e = omega arith
