use native.Mathlib.Nat.{mul-zero}
use native.Mathlib.Omega.{arith}
use Rattle.residue.specs.Chosen.{chosen}
use Rattle.base_halves_step.proofs.Spreading.{turn_next}
use Rattle.base_same.proofs.Writing.{column_none, column_length, group_within, word_lent, column_turn, column_end}
use Rattle.base_same.proofs.column.write_words.Goals as goal

pub overflow_mul-h : goal.overflow_mul-h
overflow_mul-h c = omega (arith, c.requires.room)

pub loop-i-init : goal.loop-i-init
loop-i-init c =
    let a = c.args in
    (omega arith, omega (arith, mul-zero a.code.now.k), column_none (chosen a.code.now.field) a.code.now.k a.code.now.n a.q a.j a.code.now.g.now a.w.now c.requires)

pub overflow_add-e : goal.overflow_add-e
overflow_add-e c =
    let a = c.args in
    let l = c.loop-i in
    omega (arith, group_within (chosen a.code.now.field) a.code.now.k a.code.now.n a.q a.j a.code.now.g.now a.w.now c.requires l.i l.a l.w l.invariant.1 l.invariant.2 (omega arith), c.requires.room)

pub overflow_add-p : goal.overflow_add-p
overflow_add-p c =
    let a = c.args in
    let l = c.loop-i in
    omega (arith, c.requires.room)

pub offset_bounds-w-a : goal.offset_bounds-w-a
offset_bounds-w-a c =
    let a = c.args in
    let l = c.loop-i in
    omega (arith, group_within (chosen a.code.now.field) a.code.now.k a.code.now.n a.q a.j a.code.now.g.now a.w.now c.requires l.i l.a l.w l.invariant.1 l.invariant.2 (omega arith), c.requires.room)

pub slice_bounds-block_word-end : goal.slice_bounds-block_word-end
slice_bounds-block_word-end c =
    let a = c.args in
    let l = c.loop-i in
    omega (arith, group_within (chosen a.code.now.field) a.code.now.k a.code.now.n a.q a.j a.code.now.g.now a.w.now c.requires l.i l.a l.w l.invariant.1 l.invariant.2 (omega arith), column_length (chosen a.code.now.field) a.code.now.k a.code.now.n a.q a.j a.code.now.g.now a.w.now c.requires l.i l.a l.w l.invariant.1 l.invariant.2 (omega arith), c.requires.room)

pub block_word-v-requires : goal.block_word-v-requires
block_word-v-requires c =
    let a = c.args in
    let l = c.loop-i in
    word_lent (chosen a.code.now.field) a.code.now.k a.code.now.n a.q a.j a.code.now.g.now a.w.now c.requires l.i l.a l.w l.invariant.1 l.invariant.2 (omega arith)

pub offset_bounds-w-p : goal.offset_bounds-w-p
offset_bounds-w-p c =
    let a = c.args in
    let l = c.loop-i in
    omega (arith, c.requires.room)

pub bounds-w-p : goal.bounds-w-p
bounds-w-p c =
    let a = c.args in
    let l = c.loop-i in
    omega (arith, column_length (chosen a.code.now.field) a.code.now.k a.code.now.n a.q a.j a.code.now.g.now a.w.now c.requires l.i l.a l.w l.invariant.1 l.invariant.2 (omega arith), c.requires.room)

pub loop-i-preserved : goal.loop-i-preserved
loop-i-preserved c =
    let a = c.args in
    let l = c.loop-i in
    (omega arith, omega (arith, l.invariant.1, turn_next a.code.now.k l.i), column_turn (chosen a.code.now.field) a.code.now.k a.code.now.n a.q a.j a.code.now.g.now a.w.now c.requires l.i l.a l.w l.invariant.1 l.invariant.2 (omega arith) _ c.block_word-v.ensures)

pub shape_of-w : goal.shape_of-w
shape_of-w c =
    let a = c.args in
    let l = c.loop-i in
    column_length (chosen a.code.now.field) a.code.now.k a.code.now.n a.q a.j a.code.now.g.now a.w.now c.requires l.i l.a l.w l.invariant.1 l.invariant.2 (omega arith)

pub returns : goal.returns
returns c =
    let a = c.args in
    let l = c.loop-i in
    column_end (chosen a.code.now.field) a.code.now.k a.code.now.n a.q a.j a.code.now.g.now a.w.now c.requires l.i l.a l.w l.invariant.1 l.invariant.2 (omega arith) (omega arith)
