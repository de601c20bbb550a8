use mathlib.Core.Path.{◌≡◌}
use mathlib.Core.Bool.{not}
use Prim.Native.Nat.{min}
use lib.Dec.{eqb}
use lib.ListN.{length, get_or}
use Rattle.places.proofs.Passed.{Passed}
use Rattle.cursor.specs.Walk.{listed, after}
use Rattle.file_places.proofs.first_equal.Given as goal

abbrev pub invariant-loop-j : goal.invariant-loop-j
invariant-loop-j l =
    (l.here ≡ after l.j l.bytes l.a)
    × (l.there ≡ after l.j l.bytes l.b)
    × Passed (λ k. not (eqb (get_or (listed l.n l.bytes l.a) k 0) (get_or (listed l.n l.bytes l.b) k 0))) (min (length (listed l.n l.bytes l.a)) (length (listed l.n l.bytes l.b))) l.j
