use Rattle.residue.specs.Chosen.{chosen}
use Rattle.residue.specs.Elements.{el}
use Rattle.residue.specs.Scale.{scale}
use Rattle.passes.proofs.Sweeping.{SweptTo}
use Rattle.residue.specs.ScaleLaws.{share, scale_unit}
use Rattle.passes.proofs.sweep_in.Given as goal

abbrev pub invariant-loop-i : goal.invariant-loop-i
invariant-loop-i l = SweptTo (chosen l.field) (el (chosen l.field) (scale l.field)) (share l.field) (scale_unit l.field) l.count l.t l.t2 l.initial.out l.i l.b l.out
