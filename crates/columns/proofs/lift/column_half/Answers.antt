use native.Mathlib.Omega.{arith}
use Rattle.columns.proofs.Lifting.{column_half}
use Rattle.columns.proofs.lift.column_half.Goals as goal

pub overflow_sub-result : goal.overflow_sub-result
overflow_sub-result c =
    let a = c.args in
    let h = column_half a.depth a.j a.c _ c.requires.0 c.requires.1 c.requires.2 c.requires.3 c.message_len-half.ensures in
    h.0

pub overflow_mul-result : goal.overflow_mul-result
overflow_mul-result c =
    let a = c.args in
    let h = column_half a.depth a.j a.c _ c.requires.0 c.requires.1 c.requires.2 c.requires.3 c.message_len-half.ensures in
    omega (arith, h.1)

pub overflow_add-result : goal.overflow_add-result
overflow_add-result c =
    let a = c.args in
    let h = column_half a.depth a.j a.c _ c.requires.0 c.requires.1 c.requires.2 c.requires.3 c.message_len-half.ensures in
    omega (arith, h.1, c.requires.2, c.requires.3)

pub returns : goal.returns
returns c =
    let a = c.args in
    let h = column_half a.depth a.j a.c _ c.requires.0 c.requires.1 c.requires.2 c.requires.3 c.message_len-half.ensures in
    h.2
