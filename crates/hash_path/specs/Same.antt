-- Whether two lists of bytes are equal, as a test, and that it is exact. Assumes nothing.
use Rattle.std.specs.Prelude.{◌≡◌, Bool, true, ◌&&◌, List, ℕ, eqb, length}
use Rattle.std.proofs.Common.{ap, ap₂, eqb-true, eq-eqb}
use Rattle.algebra.specs.Tests.{and_both, all_same, same_is, is_same}

-- as many, and the same in each place
unfoldable pub same_bytes : List ℕ → List ℕ → Bool
same_bytes a b = eqb (length a) (length b) && all_same a b

-- THE TEST holds of equal lists, and of no others
pub same_equal : (a b : List ℕ) → same_bytes a b ≡ true → a ≡ b
unfolding same_bytes
same_equal a b e = let t = and_both (eqb (length a) (length b)) (all_same a b) e in same_is a b (eqb-true _ _ t.0) t.1

pub equal_same : (a b : List ℕ) → a ≡ b → same_bytes a b ≡ true
unfolding same_bytes
equal_same a b e = ap₂ ◌&&◌ (eq-eqb (length a) (length b) (ap length e)) (is_same a b e)
