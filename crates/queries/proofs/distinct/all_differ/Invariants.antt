use Rattle.queries.proofs.Marked.{Marked}
use Rattle.queries.proofs.distinct.all_differ.Given as goal

abbrev pub invariant-loop-i : goal.invariant-loop-i
invariant-loop-i l = Marked l.s l.marks l.i
