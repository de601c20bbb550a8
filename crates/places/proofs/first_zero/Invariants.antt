use mathlib.Core.Bool.{not}
use lib.Dec.{eqb}
use lib.ListN.{length, get_or}
use Rattle.places.proofs.Passed.{Passed}
use Rattle.places.proofs.first_zero.Given as goal

abbrev pub invariant-loop-i : goal.invariant-loop-i
invariant-loop-i l = Passed (λ j. not (eqb (get_or l.s j 0) 0)) (length l.s) l.i
