-- What std's `==` answers at two lists of bytes is the test of as many bytes and the same in each place. Assumes nothing.
use mathlib.Core.Path.{◌≡◌, refl, sym, ap, ◌∙◌}
use mathlib.Core.Bool.{Bool, true, false, ◌&&◌}
use mathlib.Core.List.{List, [], ◌∷◌}
use Prim.Native.Nat.{ℕ}
use lib.Dec.{eqb, eqb-suc-zero, eqb-zero-suc, eqb-suc-suc}
use lib.ListN.{length}
use lib.Pointwise.{pointwise}
use Rattle.algebra.specs.Tests.{all₂, all_same}
use Rattle.hash_path.specs.Same.{same_bytes}

other_first : (a b c : Bool) → (a && (b && c)) ≡ (b && (a && c))
other_first true b c = refl
other_first false true c = refl
other_first false false c = refl

pub pairs_same : (xs ys : List ℕ) → pointwise eqb xs ys ≡ same_bytes xs ys
unfolding same_bytes all₂
pairs_same [] [] = refl
pairs_same [] (y ∷ ys) = sym (ap (λ b. b && true) (eqb-zero-suc (length ys)))
pairs_same (x ∷ xs) [] = sym (ap (λ b. b && true) (eqb-suc-zero (length xs)))
pairs_same (x ∷ xs) (y ∷ ys) =
    ap (λ b. eqb x y && b) (pairs_same xs ys)
    ∙ other_first (eqb x y) (eqb (length xs) (length ys)) (all_same xs ys)
    ∙ ap (λ b. b && (eqb x y && all_same xs ys)) (sym (eqb-suc-suc (length xs) (length ys)))
