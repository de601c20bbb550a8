use Prim.Native.Nat.{◌-◌, ◌^◌}
use lib.ListN.{length}
use Rattle.residue.specs.Chosen.{chosen}
use Rattle.base_undo.proofs.Slicing.{block_within, from_column, inverses_from, column_undone}
use Rattle.base_undo.proofs.column.undo_column.Goals as goal

pub slice_bounds-undo_first-count-3 : goal.slice_bounds-undo_first-count-3
slice_bounds-undo_first-count-3 c =
    let a = c.args in
    let 𝓕 = chosen a.field in
    let l = c.min-s in
    block_within 𝓕 a.depth a.n a.t.now a.t2.now a.block.now c.requires.0 a.b c.requires.1 l.result l.ensures

pub slice_bounds-undo_first-start-3 : goal.slice_bounds-undo_first-start-3
slice_bounds-undo_first-start-3 c =
    let a = c.args in
    let 𝓕 = chosen a.field in
    let l = c.min-s in
    block_within 𝓕 a.depth a.n a.t.now a.t2.now a.block.now c.requires.0 a.b c.requires.1 l.result l.ensures

pub undo_first-requires : goal.undo_first-requires
undo_first-requires c =
    let a = c.args in
    let 𝓕 = chosen a.field in
    let l = c.min-s in
    (from_column 𝓕 a.depth a.n a.t.now a.t2.now a.block.now c.requires.0 a.b c.requires.1 l.result l.ensures (length a.work.now) c.requires.2, inverses_from 𝓕 a.depth a.n a.t.now a.t2.now a.block.now c.requires.0 a.b c.requires.1 l.result l.ensures (2 ^ a.depth - 1) c.requires.3)

pub returns : goal.returns
returns c =
    let a = c.args in
    let 𝓕 = chosen a.field in
    let l = c.min-s in
    column_undone 𝓕 a.depth a.n a.t.now a.t2.now a.block.now c.requires.0 a.b c.requires.1 l.result l.ensures c.undo_first.ensures
