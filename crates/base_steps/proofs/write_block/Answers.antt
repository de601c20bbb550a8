use native.Mathlib.Omega.{arith}
use lib.ListN.{length-take}
use Rattle.residue.specs.Chosen.{chosen}
use Rattle.base_steps.proofs.RowPlaces.{end_within, encode_lent, block_given}
use Rattle.base_steps.proofs.write_block.Goals as goal

pub overflow_mul-end : goal.overflow_mul-end
overflow_mul-end c = let a = c.args in omega (arith, end_within (chosen a.code.now.field) a.depth a.code.now.low a.i a.code.now.k a.code.now.n a.code.now.g.now a.code.now.t.now a.code.now.t2.now a.opening.now a.work.now c.requires _ _ _ c.message_len-m.ensures c.block_at-at.ensures c.message_len.ensures)

pub overflow_add-end : goal.overflow_add-end
overflow_add-end c = let a = c.args in omega (arith, end_within (chosen a.code.now.field) a.depth a.code.now.low a.i a.code.now.k a.code.now.n a.code.now.g.now a.code.now.t.now a.code.now.t2.now a.opening.now a.work.now c.requires _ _ _ c.message_len-m.ensures c.block_at-at.ensures c.message_len.ensures)

pub slice_bounds-encode_rows-end : goal.slice_bounds-encode_rows-end
slice_bounds-encode_rows-end c = simp length-take (omega (arith, c.requires.room, c.message_len-m.ensures))

pub offset_bounds-opening-at : goal.offset_bounds-opening-at
offset_bounds-opening-at c = let a = c.args in omega (arith, end_within (chosen a.code.now.field) a.depth a.code.now.low a.i a.code.now.k a.code.now.n a.code.now.g.now a.code.now.t.now a.code.now.t2.now a.opening.now a.work.now c.requires _ _ _ c.message_len-m.ensures c.block_at-at.ensures c.message_len.ensures)

pub slice_bounds-encode_rows-end-2 : goal.slice_bounds-encode_rows-end-2
slice_bounds-encode_rows-end-2 c = let a = c.args in end_within (chosen a.code.now.field) a.depth a.code.now.low a.i a.code.now.k a.code.now.n a.code.now.g.now a.code.now.t.now a.code.now.t2.now a.opening.now a.work.now c.requires _ _ _ c.message_len-m.ensures c.block_at-at.ensures c.message_len.ensures

pub encode_rows-requires : goal.encode_rows-requires
encode_rows-requires c = let a = c.args in encode_lent (chosen a.code.now.field) a.depth a.code.now.low a.i a.code.now.k a.code.now.n a.code.now.g.now a.code.now.t.now a.code.now.t2.now a.opening.now a.work.now c.requires _ _ _ c.message_len-m.ensures c.block_at-at.ensures c.message_len.ensures

pub returns : goal.returns
returns c = let a = c.args in block_given (chosen a.code.now.field) a.depth a.code.now.low a.i a.code.now.k a.code.now.n a.code.now.g.now a.code.now.t.now a.code.now.t2.now a.opening.now a.work.now c.requires _ _ _ c.message_len-m.ensures c.block_at-at.ensures c.message_len.ensures _ c.encode_rows.ensures
