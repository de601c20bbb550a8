use mathlib.Core.Path.{◌≡◌}
use mathlib.Core.Bool.{not}
use lib.Dec.{eqb}
use lib.ListN.{length, get_or}
use Rattle.places.proofs.Passed.{Passed}
use Rattle.cursor.specs.Walk.{listed, after}
use Rattle.file_places.proofs.first_zero.Given as goal

abbrev pub invariant-loop-i : goal.invariant-loop-i
invariant-loop-i l =
    (l.here ≡ after l.i l.bytes l.at) × Passed (λ j. not (eqb (get_or (listed l.n l.bytes l.at) j 0) 0)) (length (listed l.n l.bytes l.at)) l.i
