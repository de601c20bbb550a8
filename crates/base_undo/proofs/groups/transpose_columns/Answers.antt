use mathlib.Core.Path.{refl}
use native.Mathlib.Omega.{arith}
use Rattle.base_undo.proofs.Grouping.{bounded, grouped_none, group_within, near, start_within, drawing, length_out, grouped_turn, grouped_end}
use Rattle.base_undo.proofs.groups.transpose_columns.Goals as goal

pub loop-j-init : goal.loop-j-init
loop-j-init c = let a = c.args in (omega arith, refl, grouped_none a.k a.q a.w.now c.requires)

pub overflow_mul-i : goal.overflow_mul-i
overflow_mul-i c =
    let a = c.args in
    let l = c.loop-j in
    omega (arith, group_within a.k a.q a.w.now c.requires l.j (omega arith), bounded a.k a.q a.w.now c.requires)

pub overflow_sub-r : goal.overflow_sub-r
overflow_sub-r c = c.requires.some

pub overflow_mul-r : goal.overflow_mul-r
overflow_mul-r c =
    let a = c.args in
    let l = c.loop-j in
    omega (arith, near a.k a.q a.w.now c.requires l.j (omega arith), bounded a.k a.q a.w.now c.requires)

pub offset_bounds-w-i : goal.offset_bounds-w-i
offset_bounds-w-i c =
    let a = c.args in
    let l = c.loop-j in
    omega (arith, start_within a.k a.q a.w.now c.requires l.j (omega arith) l.w l.invariant.1 l.invariant.2)

pub slice_bounds-gather_strided-count : goal.slice_bounds-gather_strided-count
slice_bounds-gather_strided-count c =
    let a = c.args in
    let l = c.loop-j in
    start_within a.k a.q a.w.now c.requires l.j (omega arith) l.w l.invariant.1 l.invariant.2

pub slice_bounds-gather_strided-start : goal.slice_bounds-gather_strided-start
slice_bounds-gather_strided-start c =
    let a = c.args in
    let l = c.loop-j in
    start_within a.k a.q a.w.now c.requires l.j (omega arith) l.w l.invariant.1 l.invariant.2

pub gather_strided-requires : goal.gather_strided-requires
gather_strided-requires c =
    let a = c.args in
    let l = c.loop-j in
    drawing a.k a.q a.w.now c.requires l.j (omega arith) l.w l.invariant.1 l.invariant.2

pub loop-j-preserved : goal.loop-j-preserved
loop-j-preserved c =
    let a = c.args in
    let l = c.loop-j in
    let r = c.gather_strided.new.w in
    let e = c.gather_strided.ensures in
    (omega arith, length_out a.k a.q a.w.now c.requires l.j (omega arith) l.w l.invariant.1 l.invariant.2 r e, grouped_turn a.k a.q a.w.now c.requires l.j (omega arith) l.w l.invariant.1 l.invariant.2 r e)

pub shape_of-w : goal.shape_of-w
shape_of-w c = c.loop-j.invariant.1

pub returns : goal.returns
returns c =
    let a = c.args in
    let l = c.loop-j in
    grouped_end a.k a.q a.w.now c.requires l.invariant.0 (omega arith) l.invariant.2
