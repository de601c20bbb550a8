use Rattle.algebra.specs.Filling.{Filled}
use Rattle.words.proofs.copy.Given as goal

abbrev pub invariant-loop-i : goal.invariant-loop-i
invariant-loop-i l = Filled l.i l.s l.initial.t l.t
