use mathlib.Core.Path.{◌≡◌}
use mathlib.Core.List.{map}
use Prim.Native.Nat.{◌≤◌}
use lib.ListN.{length}
use Rattle.algebra.specs.Filling.{Filled}
use Rattle.residue.specs.Chosen.{chosen}
use Rattle.residue.specs.Scale.{lowered}
use Rattle.row_sums.specs.Sums.{added_scaled}
use Rattle.row_sums.proofs.two_more.Given as goal

abbrev pub invariant-loop-i : goal.invariant-loop-i
invariant-loop-i l =
    (l.i ≤ length l.initial.out)
    × (length l.out ≡ length l.initial.out)
    × Filled l.i (added_scaled (chosen l.field) (lowered l.field l.d.0) l.v (added_scaled (chosen l.field) (lowered l.field l.c.0) l.u (map (lowered l.field) l.initial.out))) l.initial.out l.out
