use Rattle.residue.specs.Chosen.{chosen}
use Rattle.halves_step.proofs.Peeling.{PartsTo}
use Rattle.halves_step.proofs.peel.peel_front.Given as goal

abbrev pub invariant-loop-i : goal.invariant-loop-i
invariant-loop-i l = PartsTo (chosen l.field) l.t l.t2 l.initial.u l.v l.r l.i l.ok l.u
