use native.Mathlib.Omega.{arith}
use lib.Pow.{pow_pos}
use mathlib.Core.Path.{ap}
use Prim.Native.Nat.{◌*◌, ◌-◌}
use Rattle.base_walks.proofs.Begins.{less_most}
use Rattle.base_walks.proofs.levels.diagonals_len.Goals as goal

pub overflow_sub-result : goal.overflow_sub-result
overflow_sub-result c = omega (arith, c.message_len.ensures, pow_pos c.args.level)

pub overflow_mul-result : goal.overflow_mul-result
overflow_mul-result c = omega (arith, less_most c.args.n c.args.level 1 c.requires.1 c.requires.0 c.message_len.ensures)

pub returns : goal.returns
returns c = ap (λ m. c.args.n * (m - 1)) c.message_len.ensures
