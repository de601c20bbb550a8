use native.Mathlib.Omega.{arith}
use lib.ListN.{length-take}
use Rattle.residue.specs.Chosen.{chosen}
use Rattle.base_rounds.proofs.OneRound.{row_within, fold_input, fold_given}
use Rattle.base_rounds.proofs.write_level.Goals as goal

pub slice_bounds-fold_block-end : goal.slice_bounds-fold_block-end
slice_bounds-fold_block-end c = let a = c.args in simp length-take (omega (arith, row_within (chosen a.code.now.field) a.depth a.code.now.low a.i a.code.now.k a.code.now.n a.code.now.g.now a.code.now.t.now a.code.now.t2.now a.r.now a.opening.now a.work.now c.requires))

pub fold_block-requires : goal.fold_block-requires
fold_block-requires c = let a = c.args in fold_input (chosen a.code.now.field) a.depth a.code.now.low a.i a.code.now.k a.code.now.n a.code.now.g.now a.code.now.t.now a.code.now.t2.now a.r.now a.opening.now a.work.now c.requires (c.is_folded.ensures c.if-is_folded.true)

pub returns-then-is_folded : goal.returns-then-is_folded
returns-then-is_folded c = let a = c.args in fold_given (chosen a.code.now.field) a.depth a.code.now.low a.i a.code.now.k a.code.now.n a.code.now.g.now a.code.now.t.now a.code.now.t2.now a.r.now a.opening.now a.work.now c.requires (c.is_folded.ensures c.if-is_folded.true) _ c.fold_block.ensures
