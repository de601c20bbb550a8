use mathlib.Core.Path.{refl, sym, ap, ◌∙◌}
use Prim.Native.Nat.{◌+◌, ◌*◌, ◌<◌}
use native.Mathlib.Nat.{zero-add, zero-mul, mul_comm}
use native.Mathlib.Omega.{arith}
use lib.ListN.{length, get_or}
use Rattle.algebra.specs.Filling.{filled_none, filled_turn, filled_end, filled_length}
use Rattle.algebra.specs.Lists.{length_row, get_or_row}
use Rattle.inversion.specs.Strides.{stride_next, stride_within}
use Rattle.undo.proofs.column.gather.Goals as goal

pub loop-i-init : goal.loop-i-init
loop-i-init c = (omega arith, refl, sym (zero-mul _), filled_none _ _)

pub offset_bounds-block-p : goal.offset_bounds-block-p
offset_bounds-block-p c =
    let a = c.args in let l = c.loop-i in let w = stride_within l.i a.c (length a.out.now) (omega arith) in let e = mul_comm a.c (length a.out.now) in let f = c.requires.2 in omega (arith, c.requires.0)

pub bounds-block-p : goal.bounds-block-p
bounds-block-p c =
    let a = c.args in let l = c.loop-i in let w = stride_within l.i a.c (length a.out.now) (omega arith) in let e = mul_comm a.c (length a.out.now) in let f = c.requires.2 in omega (arith, c.requires.0)

pub overflow_add-p : goal.overflow_add-p
overflow_add-p c =
    let a = c.args in let l = c.loop-i in let w = stride_within l.i a.c (length a.out.now) (omega arith) in let e = mul_comm a.c (length a.out.now) in let f = c.requires.2 in omega arith

pub loop-i-preserved : goal.loop-i-preserved
loop-i-preserved c =
    let a = c.args in let l = c.loop-i in let w = stride_within l.i a.c (length a.out.now) (omega arith) in
    let m = length a.out.now in
    let b = a.block.now in
    let h : l.i < m = omega arith in
    let q = filled_turn 0 h (length_row m _) l.invariant.3 (ap (λ k. get_or b k 0) (l.invariant.2 ∙ sym (zero-add (l.i * a.c))) ∙ sym (get_or_row m (λ i. get_or b (0 + i * a.c) 0) l.i 0 h)) in
    (omega arith, filled_length q, omega (arith, stride_next l.i a.c), q)

pub returns : goal.returns
returns c =
    let a = c.args in let l = c.loop-i in
    filled_end (omega arith) (length_row (length a.out.now) _) l.invariant.3
