use mathlib.Core.Path.{sym}
use native.Mathlib.Omega.{arith}
use lib.ListN.{length}
use Rattle.residue.specs.Chosen.{chosen}
use Rattle.base_undo.proofs.Columns.{bounded}
use Rattle.base_undo.proofs.Messages.{grouping, end_within, length_front, solving, message_is}
use Rattle.base_undo.proofs.message_of_rows.Goals as goal

pub transpose-requires : goal.transpose-requires
transpose-requires c =
    let a = c.args in
    let q = c.message_len-q in
    let u = c.undo_columns in
    grouping (chosen a.code.now.field) a.depth a.code.now.k a.code.now.n a.m.now a.code.now.t.now a.code.now.t2.now a.block.now (length a.work.now) c.requires.0 q.result q.ensures u.new.work u.auto.work u.ensures

pub overflow_mul-e : goal.overflow_mul-e
overflow_mul-e c =
    let a = c.args in
    let q = c.message_len-q in
    let u = c.undo_columns in
    omega (arith, bounded (chosen a.code.now.field) a.depth a.code.now.k a.code.now.n a.code.now.t.now a.code.now.t2.now a.block.now (length a.work.now) c.requires.0 q.result q.ensures)

pub slice_bounds-solve_blocks-end : goal.slice_bounds-solve_blocks-end
slice_bounds-solve_blocks-end c =
    let a = c.args in
    let q = c.message_len-q in
    let u = c.undo_columns in
    let g = c.transpose in
    end_within (chosen a.code.now.field) a.depth a.code.now.k a.code.now.n a.m.now a.code.now.t.now a.code.now.t2.now a.block.now (length a.work.now) c.requires.0 q.result q.ensures u.new.work u.auto.work u.ensures g.new.w g.auto.w g.ensures

pub slice_bounds-solve_blocks-end-2 : goal.slice_bounds-solve_blocks-end-2
slice_bounds-solve_blocks-end-2 c =
    let a = c.args in
    let q = c.message_len-q in
    let u = c.undo_columns in
    let g = c.transpose in
    sym (length_front (chosen a.code.now.field) a.depth a.code.now.k a.code.now.n a.m.now a.code.now.t.now a.code.now.t2.now a.block.now (length a.work.now) c.requires.0 q.result q.ensures u.new.work u.auto.work u.ensures g.new.w g.auto.w g.ensures)

pub solve_blocks-requires : goal.solve_blocks-requires
solve_blocks-requires c =
    let a = c.args in
    let q = c.message_len-q in
    let u = c.undo_columns in
    let g = c.transpose in
    solving (chosen a.code.now.field) a.depth a.code.now.k a.code.now.n a.m.now a.code.now.t.now a.code.now.t2.now a.block.now (length a.work.now) c.requires.0 q.result q.ensures u.new.work u.auto.work u.ensures g.new.w g.auto.w g.ensures c.requires.1 c.requires.2

pub returns : goal.returns
returns c =
    let a = c.args in
    let q = c.message_len-q in
    let u = c.undo_columns in
    let g = c.transpose in
    message_is (chosen a.code.now.field) a.depth a.code.now.k a.code.now.n a.m.now a.code.now.t.now a.code.now.t2.now a.block.now (length a.work.now) c.requires.0 q.result q.ensures u.new.work u.auto.work u.ensures g.new.w g.auto.w g.ensures _ _ c.solve_blocks.auto.out c.solve_blocks.ensures
