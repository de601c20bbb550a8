use native.Mathlib.Omega.{arith}
use Rattle.base_halves.proofs.Stepping.{level_at}
use Rattle.base_halves.proofs.same.level_place.Goals as goal

pub overflow_mul-size : goal.overflow_mul-size
overflow_mul-size c = let a = c.args in let p = level_at a.level a.n c.message_len-q.result c.requires.0 c.requires.1 c.message_len-q.ensures in omega (arith, p.most)

pub overflow_sub-off : goal.overflow_sub-off
overflow_sub-off c = let a = c.args in let p = level_at a.level a.n c.message_len-q.result c.requires.0 c.requires.1 c.message_len-q.ensures in omega (arith, p.some)

pub overflow_mul-off : goal.overflow_mul-off
overflow_mul-off c = let a = c.args in let p = level_at a.level a.n c.message_len-q.result c.requires.0 c.requires.1 c.message_len-q.ensures in omega (arith, p.most, p.less)

pub overflow_add-result : goal.overflow_add-result
overflow_add-result c = let a = c.args in let p = level_at a.level a.n c.message_len-q.result c.requires.0 c.requires.1 c.message_len-q.ensures in omega (arith, p.most, p.less)

pub returns : goal.returns
returns c = let a = c.args in let p = level_at a.level a.n c.message_len-q.result c.requires.0 c.requires.1 c.message_len-q.ensures in p.place
