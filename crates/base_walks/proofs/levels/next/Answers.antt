use native.Mathlib.Omega.{arith}
use Rattle.walks.specs.WalkLaws.{next_zero, next_less, next_same}
use Rattle.base_walks.proofs.levels.next.Goals as goal

pub returns-then-level-eq0 : goal.returns-then-level-eq0
returns-then-level-eq0 c = let a = c.args in next_zero a.n a.level a.u c.if-level-eq0.true

pub returns-then-u-size : goal.returns-then-u-size
returns-then-u-size c = let a = c.args in next_less a.n a.level a.u c.if-level-eq0.false c.block_len-size.ensures (omega arith)

pub returns : goal.returns
returns c = let a = c.args in next_same a.n a.level a.u c.if-level-eq0.false c.block_len-size.ensures (omega arith)
