use mathlib.Core.Path.{◌≡◌}
use Prim.Native.Nat.{◌≤◌}
use lib.ListN.{length}
use Rattle.residue.specs.Chosen.{chosen}
use Rattle.residue.specs.Elements.{el}
use Rattle.residue.specs.Scale.{scale}
use Rattle.residue.specs.ScaleLaws.{share, scale_unit}
use Rattle.row_code.proofs.Rows.{ScaledTo, multiple}
use Rattle.row_code.proofs.scale_loose.Given as goal

abbrev pub invariant-loop-i : goal.invariant-loop-i
invariant-loop-i l = (l.i ≤ length l.row) × (length l.out ≡ length l.row) × ScaledTo (chosen l.field) (el (chosen l.field) (scale l.field)) (share l.field) (scale_unit l.field) (multiple l.field l.a.0 l.row) l.initial.out l.i l.out
