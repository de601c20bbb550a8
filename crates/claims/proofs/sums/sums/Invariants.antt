use Rattle.residue.specs.Chosen.{chosen}
use Rattle.claims.proofs.SumChecks.{SumsLeft}
use Rattle.claims.proofs.sums.sums.Given as goal

abbrev pub invariant-loop-i : goal.invariant-loop-i
invariant-loop-i l = SumsLeft (chosen l.field) l.depth l.initial.claim l.r l.opening l.i l.claim
