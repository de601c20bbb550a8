use mathlib.Core.Path.{sym}
use native.Mathlib.Omega.{arith}
use Rattle.residue.specs.Chosen.{chosen}
use Rattle.base_same.proofs.Comparing.{few, base_lent, length_first, end_within, lifting, judged_column, stays}
use Rattle.base_same.proofs.same_column.Goals as goal

pub message_len-q-requires : goal.message_len-q-requires
message_len-q-requires c = c.requires.0.depth

pub overflow_mul-h : goal.overflow_mul-h
overflow_mul-h c =
    let a = c.args in
    let q = c.message_len-q in
    omega (arith, (few (chosen a.code.now.field) a.depth a.code.now.k a.code.now.n a.j a.code.now.g.now a.code.now.t.now a.code.now.t2.now a.block.now a.work.now c.requires.0 c.requires.1 q.result q.ensures).1)

pub overflow_add-e : goal.overflow_add-e
overflow_add-e c =
    let a = c.args in
    let q = c.message_len-q in
    let small = few (chosen a.code.now.field) a.depth a.code.now.k a.code.now.n a.j a.code.now.g.now a.code.now.t.now a.code.now.t2.now a.block.now a.work.now c.requires.0 c.requires.1 q.result q.ensures in
    omega (arith, small.0, small.1)

pub write_column-requires : goal.write_column-requires
write_column-requires c =
    let a = c.args in
    let q = c.message_len-q in
    base_lent (chosen a.code.now.field) a.depth a.code.now.k a.code.now.n a.j a.code.now.g.now a.code.now.t.now a.code.now.t2.now a.block.now a.work.now c.requires.0 c.requires.1 q.result q.ensures

pub slice_bounds-lifts_to-end : goal.slice_bounds-lifts_to-end
slice_bounds-lifts_to-end c =
    let a = c.args in
    let q = c.message_len-q in
    sym (length_first (chosen a.code.now.field) a.depth a.code.now.k a.code.now.n a.j a.code.now.g.now a.code.now.t.now a.code.now.t2.now a.block.now a.work.now c.requires.0 c.requires.1 q.result q.ensures)

pub offset_bounds-work-h : goal.offset_bounds-work-h
offset_bounds-work-h c =
    let a = c.args in
    let q = c.message_len-q in
    omega (arith, (few (chosen a.code.now.field) a.depth a.code.now.k a.code.now.n a.j a.code.now.g.now a.code.now.t.now a.code.now.t2.now a.block.now a.work.now c.requires.0 c.requires.1 q.result q.ensures).1)

pub slice_bounds-lifts_to-end-2 : goal.slice_bounds-lifts_to-end-2
slice_bounds-lifts_to-end-2 c =
    let a = c.args in
    let q = c.message_len-q in
    let p = c.write_column in
    end_within (chosen a.code.now.field) a.depth a.code.now.k a.code.now.n a.j a.code.now.g.now a.code.now.t.now a.code.now.t2.now a.block.now a.work.now c.requires.0 c.requires.1 q.result q.ensures p.new.w p.auto.w p.ensures

pub lifts_to-requires : goal.lifts_to-requires
lifts_to-requires c =
    let a = c.args in
    let q = c.message_len-q in
    let p = c.write_column in
    lifting (chosen a.code.now.field) a.depth a.code.now.k a.code.now.n a.j a.code.now.g.now a.code.now.t.now a.code.now.t2.now a.block.now a.work.now c.requires.0 c.requires.1 q.result q.ensures p.new.w p.auto.w p.ensures

pub returns : goal.returns
returns c =
    let a = c.args in
    let q = c.message_len-q in
    let p = c.write_column in
    let r = c.lifts_to in
    (judged_column (chosen a.code.now.field) a.depth a.code.now.k a.code.now.n a.j a.code.now.g.now a.code.now.t.now a.code.now.t2.now a.block.now a.work.now c.requires.0 c.requires.1 q.result q.ensures p.new.w p.auto.w p.ensures r.result r.ensures, stays (chosen a.code.now.field) a.depth a.code.now.k a.code.now.n a.j a.code.now.g.now a.code.now.t.now a.code.now.t2.now a.block.now a.work.now c.requires.0 c.requires.1 q.result q.ensures p.new.w p.auto.w p.ensures r.new.w)
