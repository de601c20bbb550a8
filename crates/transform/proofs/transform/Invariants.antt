use Prim.Native.Nat.{◌-◌}
use Rattle.residue.specs.Chosen.{chosen}
use Rattle.transform.specs.Passes.{across}
use Rattle.transform.proofs.Passing.{Reached}
use Rattle.transform.proofs.transform.Given as goal

abbrev pub invariant-loop-level : goal.invariant-loop-level
invariant-loop-level l = Reached (chosen l.field) (across (chosen l.field) l.way) l.depth l.initial.s l.level l.half l.count l.s
