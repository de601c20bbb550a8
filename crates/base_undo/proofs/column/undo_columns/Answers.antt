use mathlib.Core.Path.{refl, sym, ◌∙◌}
use Prim.Native.Nat.{◌+◌}
use native.Mathlib.Nat.{zero-mul}
use native.Mathlib.Omega.{arith}
use lib.ListN.{length}
use Rattle.residue.specs.Chosen.{chosen}
use Rattle.base_undo.proofs.Columns.{undone_none, waiting_all, undone_end, front, bounded, inverting_lent, room, below, part_room, behind, length_out, next_start, undone_turn, waiting_turn}
use Rattle.base_undo.proofs.column.undo_columns.Goals as goal

pub message_len-q-requires : goal.message_len-q-requires
message_len-q-requires c = c.requires.input.depth

pub invert_columns-requires : goal.invert_columns-requires
invert_columns-requires c =
    let a = c.args in
    let 𝓕 = chosen a.code.now.field in
    let q = c.message_len-q in
    inverting_lent 𝓕 a.depth a.code.now.k a.code.now.n a.code.now.t.now a.code.now.t2.now a.block.now (length a.work.now) c.requires q.result q.ensures

pub overflow_sub-s : goal.overflow_sub-s
overflow_sub-s c = c.requires.some

pub overflow_mul-s : goal.overflow_mul-s
overflow_mul-s c =
    let a = c.args in
    let 𝓕 = chosen a.code.now.field in
    let q = c.message_len-q in
    omega (arith, front 𝓕 a.depth a.code.now.k a.code.now.n a.code.now.t.now a.code.now.t2.now a.block.now (length a.work.now) c.requires q.result q.ensures, bounded 𝓕 a.depth a.code.now.k a.code.now.n a.code.now.t.now a.code.now.t2.now a.block.now (length a.work.now) c.requires q.result q.ensures)

pub loop-b-init : goal.loop-b-init
loop-b-init c =
    let a = c.args in
    let 𝓕 = chosen a.code.now.field in
    let q = c.message_len-q in
    (omega arith, refl, omega (arith, zero-mul q.result), undone_none 𝓕 a.depth a.code.now.k a.code.now.n a.code.now.t.now a.code.now.t2.now a.block.now _, waiting_all 𝓕 c.invert_columns.ensures)

pub overflow_add-e : goal.overflow_add-e
overflow_add-e c =
    let a = c.args in
    let 𝓕 = chosen a.code.now.field in
    let q = c.message_len-q in
    let l = c.loop-b in
    omega (arith, room 𝓕 a.depth a.code.now.k a.code.now.n a.code.now.t.now a.code.now.t2.now a.block.now (length a.work.now) c.requires q.result q.ensures l.b l.s (l.s + q.result + q.result) l.work (l.invariant.1 ∙ c.invert_columns.auto.work) l.invariant.2 refl (omega arith))

pub overflow_add-e-in-loop-b : goal.overflow_add-e-in-loop-b
overflow_add-e-in-loop-b c =
    let a = c.args in
    let 𝓕 = chosen a.code.now.field in
    let q = c.message_len-q in
    let l = c.loop-b in
    omega (arith, room 𝓕 a.depth a.code.now.k a.code.now.n a.code.now.t.now a.code.now.t2.now a.block.now (length a.work.now) c.requires q.result q.ensures l.b l.s (l.s + q.result + q.result) l.work (l.invariant.1 ∙ c.invert_columns.auto.work) l.invariant.2 refl (omega arith))

pub offset_bounds-work-s : goal.offset_bounds-work-s
offset_bounds-work-s c =
    let a = c.args in
    let 𝓕 = chosen a.code.now.field in
    let q = c.message_len-q in
    let l = c.loop-b in
    omega (arith, room 𝓕 a.depth a.code.now.k a.code.now.n a.code.now.t.now a.code.now.t2.now a.block.now (length a.work.now) c.requires q.result q.ensures l.b l.s (l.s + q.result + q.result) l.work (l.invariant.1 ∙ c.invert_columns.auto.work) l.invariant.2 refl (omega arith))

pub slice_bounds-undo_column-end : goal.slice_bounds-undo_column-end
slice_bounds-undo_column-end c =
    let a = c.args in
    let 𝓕 = chosen a.code.now.field in
    let q = c.message_len-q in
    let l = c.loop-b in
    room 𝓕 a.depth a.code.now.k a.code.now.n a.code.now.t.now a.code.now.t2.now a.block.now (length a.work.now) c.requires q.result q.ensures l.b l.s (l.s + q.result + q.result) l.work (l.invariant.1 ∙ c.invert_columns.auto.work) l.invariant.2 refl (omega arith)

pub undo_column-requires : goal.undo_column-requires
undo_column-requires c =
    let a = c.args in
    let 𝓕 = chosen a.code.now.field in
    let q = c.message_len-q in
    let l = c.loop-b in
    (c.requires.input, below 𝓕 a.depth a.code.now.k a.code.now.n a.code.now.t.now a.code.now.t2.now a.block.now (length a.work.now) c.requires q.result q.ensures l.b l.s (l.s + q.result + q.result) l.work (l.invariant.1 ∙ c.invert_columns.auto.work) l.invariant.2 refl (omega arith), part_room 𝓕 a.depth a.code.now.k a.code.now.n a.code.now.t.now a.code.now.t2.now a.block.now (length a.work.now) c.requires q.result q.ensures l.b l.s (l.s + q.result + q.result) l.work (l.invariant.1 ∙ c.invert_columns.auto.work) l.invariant.2 refl (omega arith), behind 𝓕 a.depth a.code.now.k a.code.now.n a.code.now.t.now a.code.now.t2.now a.block.now (length a.work.now) c.requires q.result q.ensures l.b l.s (l.s + q.result + q.result) l.work (l.invariant.1 ∙ c.invert_columns.auto.work) l.invariant.2 refl (omega arith) l.invariant.4)

pub overflow_add-s : goal.overflow_add-s
overflow_add-s c =
    let a = c.args in
    let 𝓕 = chosen a.code.now.field in
    let q = c.message_len-q in
    let l = c.loop-b in
    omega (arith, room 𝓕 a.depth a.code.now.k a.code.now.n a.code.now.t.now a.code.now.t2.now a.block.now (length a.work.now) c.requires q.result q.ensures l.b l.s (l.s + q.result + q.result) l.work (l.invariant.1 ∙ c.invert_columns.auto.work) l.invariant.2 refl (omega arith))

pub loop-b-preserved : goal.loop-b-preserved
loop-b-preserved c =
    let a = c.args in
    let 𝓕 = chosen a.code.now.field in
    let q = c.message_len-q in
    let l = c.loop-b in
    let r = c.undo_column.new.work in
    let lr = c.undo_column.auto.work in
    (omega arith, length_out 𝓕 a.depth a.code.now.k a.code.now.n a.code.now.t.now a.code.now.t2.now a.block.now (length a.work.now) c.requires q.result q.ensures l.b l.s (l.s + q.result + q.result) l.work (l.invariant.1 ∙ c.invert_columns.auto.work) l.invariant.2 refl (omega arith) r lr ∙ sym c.invert_columns.auto.work, next_start 𝓕 a.depth a.code.now.k a.code.now.n a.code.now.t.now a.code.now.t2.now a.block.now (length a.work.now) c.requires q.result q.ensures l.b l.s (l.s + q.result + q.result) l.work (l.invariant.1 ∙ c.invert_columns.auto.work) l.invariant.2 refl (omega arith), undone_turn 𝓕 a.depth a.code.now.k a.code.now.n a.code.now.t.now a.code.now.t2.now a.block.now (length a.work.now) c.requires q.result q.ensures l.b l.s (l.s + q.result + q.result) l.work (l.invariant.1 ∙ c.invert_columns.auto.work) l.invariant.2 refl (omega arith) r lr l.invariant.3 c.undo_column.ensures, waiting_turn 𝓕 a.depth a.code.now.k a.code.now.n a.code.now.t.now a.code.now.t2.now a.block.now (length a.work.now) c.requires q.result q.ensures l.b l.s (l.s + q.result + q.result) l.work (l.invariant.1 ∙ c.invert_columns.auto.work) l.invariant.2 refl (omega arith) r lr l.invariant.4)

pub shape_of-work : goal.shape_of-work
shape_of-work c = c.loop-b.invariant.1 ∙ c.invert_columns.auto.work

pub returns : goal.returns
returns c =
    let l = c.loop-b in
    undone_end (chosen c.args.code.now.field) l.b (omega arith) l.invariant.3
