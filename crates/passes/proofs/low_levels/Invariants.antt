use Rattle.residue.specs.Chosen.{chosen}
use Rattle.residue.specs.Elements.{el}
use Rattle.residue.specs.Scale.{scale}
use Rattle.passes.proofs.LowLevels.{Reached}
use Rattle.passes.proofs.low_levels.Given as goal

abbrev pub invariant-loop-level : goal.invariant-loop-level
invariant-loop-level l = Reached (chosen l.field) (el (chosen l.field) (scale l.field)) l.depth l.g l.t l.t2 l.initial.out l.level l.count l.n l.off l.out
