use native.Mathlib.Omega.{arith}
use Rattle.layout.specs.BlockLaws.{block_top, block_part, part_within}
use Rattle.base_walks.proofs.Begins.{start_is, rest_within}
use Rattle.base_walks.proofs.levels.level_block.Goals as goal

pub returns-then-level-depth : goal.returns-then-level-depth
returns-then-level-depth c = let a = c.args in block_top a.code.now.n a.code.now.low a.depth a.block.now a.opening.now a.level c.if-level-depth.true

pub block_at-start-requires : goal.block_at-start-requires
block_at-start-requires c =
    let a = c.args in
    (omega (arith, c.requires.0.depth), c.requires.0.wide, rest_within a.code.now.n a.code.now.low a.depth a.level (omega arith) c.requires.2)

pub overflow_add-end : goal.overflow_add-end
overflow_add-end c =
    let a = c.args in
    omega (arith, part_within a.code.now.n a.code.now.low a.depth a.level (omega arith) (start_is a.code.now.n a.code.now.low a.depth a.level (omega arith) c.block_at-start.ensures c.requires.2) c.block_len.ensures c.requires.2)

pub offset_bounds-opening-start : goal.offset_bounds-opening-start
offset_bounds-opening-start c =
    let a = c.args in
    omega (arith, part_within a.code.now.n a.code.now.low a.depth a.level (omega arith) (start_is a.code.now.n a.code.now.low a.depth a.level (omega arith) c.block_at-start.ensures c.requires.2) c.block_len.ensures c.requires.2)

pub slice_bounds-result-end : goal.slice_bounds-result-end
slice_bounds-result-end c =
    let a = c.args in
    part_within a.code.now.n a.code.now.low a.depth a.level (omega arith) (start_is a.code.now.n a.code.now.low a.depth a.level (omega arith) c.block_at-start.ensures c.requires.2) c.block_len.ensures c.requires.2

pub returns : goal.returns
returns c =
    let a = c.args in
    block_part a.code.now.n a.code.now.low a.depth a.block.now a.opening.now a.level (omega arith)
    (start_is a.code.now.n a.code.now.low a.depth a.level (omega arith) c.block_at-start.ensures c.requires.2) c.block_len.ensures
