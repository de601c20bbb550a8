use native.Mathlib.Omega.{arith}
use lib.Pow.{pow_pos}
use Rattle.residue.specs.Chosen.{chosen}
use Rattle.base_descend.proofs.Parts.{stop_within, stop_within', end_within, behind_lent, block_folded}
use Rattle.base_descend.proofs.fold_block.Goals as goal

pub new-a-requires : goal.new-a-requires
new-a-requires c = c.requires.challenges_low.low _ (omega (arith, c.requires.challenge))

pub overflow_mul-n : goal.overflow_mul-n
overflow_mul-n c = let a = c.args in omega (arith, stop_within (chosen a.field) a.depth a.low a.i a.g.now a.t.now a.t2.now a.r.now a.opening.now c.requires _ c.message_len-rows.ensures)

pub overflow_sub-off : goal.overflow_sub-off
overflow_sub-off c = let a = c.args in omega (arith, c.message_len-rows.ensures, pow_pos a.i)

pub overflow_mul-off : goal.overflow_mul-off
overflow_mul-off c = let a = c.args in omega (arith, stop_within (chosen a.field) a.depth a.low a.i a.g.now a.t.now a.t2.now a.r.now a.opening.now c.requires _ c.message_len-rows.ensures)

pub overflow_add-stop : goal.overflow_add-stop
overflow_add-stop c = let a = c.args in omega (arith, stop_within (chosen a.field) a.depth a.low a.i a.g.now a.t.now a.t2.now a.r.now a.opening.now c.requires _ c.message_len-rows.ensures)

pub overflow_mul-end : goal.overflow_mul-end
overflow_mul-end c = let a = c.args in omega (arith, end_within (chosen a.field) a.depth a.low a.i a.g.now a.t.now a.t2.now a.r.now a.opening.now c.requires _ c.message_len-rows.ensures _ c.block_at-at.ensures)

pub overflow_add-end : goal.overflow_add-end
overflow_add-end c = let a = c.args in omega (arith, end_within (chosen a.field) a.depth a.low a.i a.g.now a.t.now a.t2.now a.r.now a.opening.now c.requires _ c.message_len-rows.ensures _ c.block_at-at.ensures)

pub offset_bounds-t-off : goal.offset_bounds-t-off
offset_bounds-t-off c = let a = c.args in omega (arith, stop_within (chosen a.field) a.depth a.low a.i a.g.now a.t.now a.t2.now a.r.now a.opening.now c.requires _ c.message_len-rows.ensures)

pub slice_bounds-fold_behind-end : goal.slice_bounds-fold_behind-end
slice_bounds-fold_behind-end c = let a = c.args in stop_within (chosen a.field) a.depth a.low a.i a.g.now a.t.now a.t2.now a.r.now a.opening.now c.requires _ c.message_len-rows.ensures

pub offset_bounds-t2-off : goal.offset_bounds-t2-off
offset_bounds-t2-off c = let a = c.args in omega (arith, stop_within' (chosen a.field) a.depth a.low a.i a.g.now a.t.now a.t2.now a.r.now a.opening.now c.requires _ c.message_len-rows.ensures)

pub slice_bounds-fold_behind-end-2 : goal.slice_bounds-fold_behind-end-2
slice_bounds-fold_behind-end-2 c = let a = c.args in stop_within' (chosen a.field) a.depth a.low a.i a.g.now a.t.now a.t2.now a.r.now a.opening.now c.requires _ c.message_len-rows.ensures

pub offset_bounds-opening-at : goal.offset_bounds-opening-at
offset_bounds-opening-at c = let a = c.args in omega (arith, end_within (chosen a.field) a.depth a.low a.i a.g.now a.t.now a.t2.now a.r.now a.opening.now c.requires _ c.message_len-rows.ensures _ c.block_at-at.ensures)

pub slice_bounds-fold_behind-end-3 : goal.slice_bounds-fold_behind-end-3
slice_bounds-fold_behind-end-3 c = let a = c.args in end_within (chosen a.field) a.depth a.low a.i a.g.now a.t.now a.t2.now a.r.now a.opening.now c.requires _ c.message_len-rows.ensures _ c.block_at-at.ensures

pub fold_behind-requires : goal.fold_behind-requires
fold_behind-requires c = let a = c.args in (rw c.new-a.ensures (c.requires.challenges_low.low _ (omega (arith, c.requires.challenge))), behind_lent (chosen a.field) a.depth a.low a.i a.g.now a.t.now a.t2.now a.r.now a.opening.now c.requires _ c.message_len-rows.ensures _ c.block_at-at.ensures)

pub returns : goal.returns
returns c = let a = c.args in block_folded (chosen a.field) a.depth a.low a.i a.g.now a.t.now a.t2.now a.r.now a.opening.now c.requires _ c.message_len-rows.ensures _ c.block_at-at.ensures _ _ c.new-a.ensures c.fold_behind.ensures
