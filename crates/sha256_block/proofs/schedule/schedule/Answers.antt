use native.Mathlib.Omega.{arith}
use lib.ListN.{length-set}
use Rattle.algebra.specs.Lists.{length_row}
use Rattle.algebra.specs.Filling.{filled_end}
use Rattle.sha256_block.proofs.Turns.{next_turn}
use Rattle.sha256_block.proofs.schedule.schedule.Goals as goal

pub loop-t-preserved : goal.loop-t-preserved
loop-t-preserved c =
    let l = c.loop-t in
    (omega arith, simp length-set l.invariant.1, next_turn _ l.t l.invariant.2 (omega arith) (omega arith) c.next_word.ensures)

pub returns : goal.returns
returns c = let l = c.loop-t in filled_end (omega arith) (length_row 64 _) l.invariant.2
