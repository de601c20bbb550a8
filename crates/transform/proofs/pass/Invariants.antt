use Prim.Native.Nat.{◌-◌}
use Rattle.residue.specs.Chosen.{chosen}
use Rattle.transform.specs.Passes.{across}
use Rattle.transform.proofs.Passing.{Passing}
use Rattle.transform.proofs.pass.Given as goal

abbrev pub invariant-loop-i : goal.invariant-loop-i
invariant-loop-i l = Passing (chosen l.field) (across (chosen l.field) l.way) l.half l.count l.initial.s l.i l.at l.s
