use native.Mathlib.Omega.{arith}
use Rattle.cursor.proofs.Puts.{writing_none, writing_room, writing_turn, writing_end}
use Rattle.cursor.proofs.write.write_all.Goals as goal

pub loop-word-init : goal.loop-word-init
loop-word-init c = let a = c.args in writing_none a.words.now a.out.now a.at

pub write_number-here-requires : goal.write_number-here-requires
write_number-here-requires c = writing_room c.loop-word.invariant (omega arith) c.requires

pub loop-word-preserved : goal.loop-word-preserved
loop-word-preserved c = writing_turn c.loop-word.invariant (omega arith) c.requires c.write_number-here.ensures

pub shape_of-out : goal.shape_of-out
shape_of-out c = c.loop-word.invariant.long

pub returns : goal.returns
returns c = writing_end c.loop-word.invariant (omega arith)
