use native.Mathlib.Omega.{arith}
use Rattle.cursor.proofs.Sizes.{sizing_none, sizing_most, sizing_turn, sizing_end}
use Rattle.cursor.proofs.write.size_all.Goals as goal

pub loop-w-init : goal.loop-w-init
loop-w-init c = sizing_none c.args.words.now

pub overflow_add-total : goal.overflow_add-total
overflow_add-total c = let l = c.loop-w.invariant in omega (arith, sizing_most l, c.size-total.ensures.1)

pub loop-w-preserved : goal.loop-w-preserved
loop-w-preserved c = sizing_turn c.loop-w.invariant (omega arith) c.size-total.ensures.0

pub returns : goal.returns
returns c = sizing_end c.loop-w.invariant (omega arith)
