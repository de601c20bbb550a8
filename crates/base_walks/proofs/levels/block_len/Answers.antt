use native.Mathlib.Omega.{arith}
use mathlib.Core.Path.{ap}
use Prim.Native.Nat.{◌*◌}
use Rattle.base_walks.proofs.Begins.{size_most}
use Rattle.base_walks.proofs.levels.block_len.Goals as goal

pub overflow_mul-result : goal.overflow_mul-result
overflow_mul-result c = omega (arith, size_most c.args.n c.args.level c.requires.1 c.requires.0 c.message_len.ensures)

pub returns : goal.returns
returns c = ap (λ m. c.args.n * m) c.message_len.ensures
