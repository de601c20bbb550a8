use Rattle.cursor.proofs.Sizes.{Sizing}
use Rattle.cursor.proofs.write.size_all.Given as goal

abbrev pub invariant-loop-w : goal.invariant-loop-w
invariant-loop-w l = Sizing l.words l.total l.w-index
