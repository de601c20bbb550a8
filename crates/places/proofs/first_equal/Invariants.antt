use mathlib.Core.Bool.{not}
use Prim.Native.Nat.{min}
use lib.Dec.{eqb}
use lib.ListN.{length, get_or}
use Rattle.places.proofs.Passed.{Passed}
use Rattle.places.proofs.first_equal.Given as goal

abbrev pub invariant-loop-j : goal.invariant-loop-j
invariant-loop-j l = Passed (λ k. not (eqb (get_or l.s k 0) (get_or l.t k 0))) (min (length l.s) (length l.t)) l.j
