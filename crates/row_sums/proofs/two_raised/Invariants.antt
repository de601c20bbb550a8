use mathlib.Core.Path.{◌≡◌}
use Prim.Native.Nat.{◌≤◌}
use lib.ListN.{length}
use Rattle.algebra.specs.Filling.{Filled}
use Rattle.residue.specs.Chosen.{chosen}
use Rattle.residue.specs.Scale.{lowered}
use Rattle.row_sums.specs.Sums.{two_scaled}
use Rattle.row_sums.proofs.two_raised.Given as goal

abbrev pub invariant-loop-i : goal.invariant-loop-i
invariant-loop-i l = (l.i ≤ length l.initial.out) × (length l.out ≡ length l.initial.out) × Filled l.i (two_scaled (chosen l.field) (lowered l.field l.a.0) (lowered l.field l.b.0) l.g l.h) l.initial.out l.out
