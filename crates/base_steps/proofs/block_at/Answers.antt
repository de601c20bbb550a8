use native.Mathlib.Omega.{arith}
use Prim.Native.Nat.{◌-◌}
use Rattle.job.specs.LimitLaws.{power_most}
use Rattle.layout.specs.LayoutLaws.{power_below}
use Rattle.base_steps.proofs.RowPlaces.{start_is, blocks_most}
use Rattle.base_steps.proofs.block_at.Goals as goal

pub overflow_sub-above : goal.overflow_sub-above
overflow_sub-above c = power_below c.args.level c.args.depth c.requires.2 c.message_len.ensures c.message_len-2.ensures

pub overflow_add-result : goal.overflow_add-result
overflow_add-result c = omega (arith, c.final_at.ensures, c.message_len-3.ensures, power_most c.args.low (omega (arith, c.requires.0)), c.requires.0)

pub overflow_mul-result : goal.overflow_mul-result
overflow_mul-result c = omega (arith, blocks_most c.args.depth c.args.n (c.message_len.result - c.message_len-2.result) (omega (arith, c.requires.0)) c.requires.1 c.message_len.ensures (omega arith))

pub overflow_add-result-2 : goal.overflow_add-result-2
overflow_add-result-2 c = omega (arith, c.final_at.ensures, c.message_len-3.ensures, power_most c.args.low (omega (arith, c.requires.0)), c.requires.0, blocks_most c.args.depth c.args.n (c.message_len.result - c.message_len-2.result) (omega (arith, c.requires.0)) c.requires.1 c.message_len.ensures (omega arith))

pub returns : goal.returns
returns c = let a = c.args in start_is a.depth a.low a.n a.level c.final_at.ensures c.message_len-3.ensures c.message_len.ensures c.message_len-2.ensures
