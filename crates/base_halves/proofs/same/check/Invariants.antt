use Rattle.residue.specs.Chosen.{chosen}
use Rattle.base_halves.proofs.Checking.{AtLevel}
use Rattle.base_halves.proofs.same.check.Given as goal

abbrev pub invariant-loop-i : goal.invariant-loop-i
invariant-loop-i l = AtLevel (chosen l.field) l.level l.i l.k l.n l.m l.g l.code.t.now l.code.t2.now l.initial.work l.work
