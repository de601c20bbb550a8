use mathlib.Core.Path.{refl}
use native.Mathlib.Nat.{zero-mul}
use native.Mathlib.Omega.{arith}
use Rattle.algebra.specs.Filling.{filled_none, filled_length}
use Rattle.inversion.specs.Strides.{stride_next}
use Rattle.base_undo.proofs.Drawing.{read_within, write_within, drawn_turn, drawn_end}
use Rattle.base_undo.proofs.groups.gather_strided.Goals as goal

pub loop-b-init : goal.loop-b-init
loop-b-init c = (omega arith, refl, omega (arith, zero-mul c.args.q), filled_none _ _)

pub offset_bounds-w-p : goal.offset_bounds-w-p
offset_bounds-w-p c =
    let a = c.args in
    let l = c.loop-b in
    omega (arith, read_within a.k a.r a.q a.w.now c.requires l.b (omega arith))

pub bounds-w-p : goal.bounds-w-p
bounds-w-p c =
    let a = c.args in
    let l = c.loop-b in
    omega (arith, read_within a.k a.r a.q a.w.now c.requires l.b (omega arith))

pub offset_bounds-w-b : goal.offset_bounds-w-b
offset_bounds-w-b c =
    let a = c.args in
    let l = c.loop-b in
    omega (arith, write_within a.k a.r a.q a.w.now c.requires l.b (omega arith))

pub bounds-w-b : goal.bounds-w-b
bounds-w-b c =
    let a = c.args in
    let l = c.loop-b in
    omega (arith, write_within a.k a.r a.q a.w.now c.requires l.b (omega arith))

pub overflow_add-p : goal.overflow_add-p
overflow_add-p c =
    let a = c.args in
    let l = c.loop-b in
    omega (arith, read_within a.k a.r a.q a.w.now c.requires l.b (omega arith), c.requires.most)

pub loop-b-preserved : goal.loop-b-preserved
loop-b-preserved c =
    let a = c.args in
    let l = c.loop-b in
    let p = drawn_turn a.k a.r a.q a.w.now c.requires (omega arith) l.invariant.2 refl l.invariant.3 in
    (omega arith, filled_length p, omega (arith, stride_next l.b a.q), p)

pub shape_of-w : goal.shape_of-w
shape_of-w c = c.loop-b.invariant.1

pub returns : goal.returns
returns c =
    let a = c.args in
    let l = c.loop-b in
    drawn_end a.k a.r a.q a.w.now c.requires l.invariant.0 (omega arith) l.invariant.3
