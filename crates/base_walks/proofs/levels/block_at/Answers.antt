use native.Mathlib.Omega.{arith}
use Rattle.base_walks.proofs.levels.block_at.Goals as goal

pub overflow_sub-result : goal.overflow_sub-result
overflow_sub-result c = omega (arith, c.diagonals_len.ensures, c.requires.2)

pub returns : goal.returns
returns c = omega (arith, c.diagonals_len.ensures, c.requires.2)
