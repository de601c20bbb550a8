use lib.ListN.{length}
use mathlib.Core.Path.{◌≡◌}
use Prim.Native.Nat.{◌≤◌}
use Rattle.residue.specs.Chosen.{chosen}
use Rattle.residue.specs.Scale.{scale}
use Rattle.passes.proofs.Crossing.{CrossedTo}
use Rattle.residue.specs.ScaleLaws.{share, scale_unit}
use Rattle.passes.proofs.cross.Given as goal

abbrev pub invariant-loop-i : goal.invariant-loop-i
invariant-loop-i l = (l.i ≤ l.n) × (length l.out ≡ length l.initial.out) × CrossedTo (chosen l.field) (scale l.field) (share l.field) (scale_unit l.field) l.t l.t2 l.initial.out l.i l.out
