use lib.Dec.{ltb}
use lib.ListN.{length, get_or}
use Rattle.places.proofs.Passed.{Passed}
use Rattle.places.proofs.first_high.Given as goal

abbrev pub invariant-loop-k : goal.invariant-loop-k
invariant-loop-k l = Passed (λ j. ltb (get_or l.s j 0) l.bound) (length l.s) l.k
