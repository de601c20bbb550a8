use Prim.Native.Nat.{◌-◌}
use Rattle.residue.specs.Chosen.{chosen}
use Rattle.transform.specs.Passes.{across}
use Rattle.transform.proofs.Crossing.{Crossing}
use Rattle.transform.proofs.cross.Given as goal

abbrev pub invariant-loop-j : goal.invariant-loop-j
invariant-loop-j l = Crossing (chosen l.field) (across (chosen l.field) l.way) l.half l.initial.s l.j l.s
