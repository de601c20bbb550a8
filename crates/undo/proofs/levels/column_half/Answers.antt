use native.Mathlib.Omega.{arith}
use Rattle.undo.proofs.Undoing.{column_half}
use Rattle.undo.proofs.levels.column_half.Goals as goal

pub overflow_sub-skip : goal.overflow_sub-skip
overflow_sub-skip c = let a = c.args in let h = column_half a.depth a.c _ c.requires.0 c.requires.1 c.requires.2 c.message_len-half.ensures in h.0

pub overflow_mul-result : goal.overflow_mul-result
overflow_mul-result c =
    let a = c.args in let h = column_half a.depth a.c _ c.requires.0 c.requires.1 c.requires.2 c.message_len-half.ensures in omega (arith, h.1)

pub returns : goal.returns
returns c = let a = c.args in let h = column_half a.depth a.c _ c.requires.0 c.requires.1 c.requires.2 c.message_len-half.ensures in h.2
