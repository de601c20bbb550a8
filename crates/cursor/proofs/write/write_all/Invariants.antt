use Rattle.cursor.proofs.Puts.{Writing}
use Rattle.cursor.proofs.write.write_all.Given as goal

abbrev pub invariant-loop-word : goal.invariant-loop-word
invariant-loop-word l = Writing l.words l.initial.out l.at l.out l.here l.word-index
