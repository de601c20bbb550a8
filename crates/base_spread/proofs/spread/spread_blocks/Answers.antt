use mathlib.Core.Path.{sym, ◌∙◌}
use Prim.Native.Nat.{◌+◌}
use native.Mathlib.Omega.{arith}
use Rattle.algebra.specs.Filling.{filled_none, filled_end, filled_length}
use Rattle.algebra.specs.Parts.{filled_part}
use Rattle.residue.specs.Elements.{elem}
use Rattle.residue.specs.Chosen.{chosen}
use Rattle.base_spread.proofs.Spreading.{reached_none, reached_next, reached_end, some, in_message, in_blocks, block_lent, block_part_by, length_blocks_by}
use Rattle.base_spread.proofs.spread.spread_blocks.Goals as goal

pub loop-i-init : goal.loop-i-init
loop-i-init c =
    (reached_none _ _ _ _ _ (omega arith) (omega arith), c.requires.0.size, filled_none _ _)

pub overflow_add-e : goal.overflow_add-e
overflow_add-e c =
    let a = c.args in
    let 𝓕 = chosen a.field in
    let l = c.loop-i in
    let w = in_message 𝓕 a.k a.n a.g.now a.message.now a.out.now c.requires.0 l.invariant.0 (omega arith) in
    omega arith

pub overflow_add-l : goal.overflow_add-l
overflow_add-l c =
    let a = c.args in
    let 𝓕 = chosen a.field in
    let l = c.loop-i in
    let w = in_blocks 𝓕 a.k a.n a.g.now a.message.now a.out.now c.requires.0 l.invariant.0 (omega arith) in
    let e = l.invariant.1 in
    omega arith

pub offset_bounds-message-i : goal.offset_bounds-message-i
offset_bounds-message-i c =
    let a = c.args in
    let 𝓕 = chosen a.field in
    let l = c.loop-i in
    let w = in_message 𝓕 a.k a.n a.g.now a.message.now a.out.now c.requires.0 l.invariant.0 (omega arith) in
    omega arith

pub slice_bounds-scaled_block-end : goal.slice_bounds-scaled_block-end
slice_bounds-scaled_block-end c =
    let a = c.args in
    let 𝓕 = chosen a.field in
    let l = c.loop-i in
    in_message 𝓕 a.k a.n a.g.now a.message.now a.out.now c.requires.0 l.invariant.0 (omega arith)

pub offset_bounds-out-b : goal.offset_bounds-out-b
offset_bounds-out-b c =
    let a = c.args in
    let 𝓕 = chosen a.field in
    let l = c.loop-i in
    let w = in_blocks 𝓕 a.k a.n a.g.now a.message.now a.out.now c.requires.0 l.invariant.0 (omega arith) in
    let e = l.invariant.1 in
    omega arith

pub slice_bounds-scaled_block-end-in-loop-i : goal.slice_bounds-scaled_block-end-in-loop-i
slice_bounds-scaled_block-end-in-loop-i c =
    let a = c.args in
    let 𝓕 = chosen a.field in
    let l = c.loop-i in
    omega (arith, in_blocks 𝓕 a.k a.n a.g.now a.message.now a.out.now c.requires.0 l.invariant.0 (omega arith), l.invariant.1)

pub scaled_block-requires : goal.scaled_block-requires
scaled_block-requires c =
    let a = c.args in
    let 𝓕 = chosen a.field in
    let l = c.loop-i in
    (block_lent 𝓕 a.k a.n a.g.now a.message.now a.out.now c.requires.0 l.invariant.0 (omega arith) l.out l.invariant.1, c.requires.1)

pub loop-i-smaller : goal.loop-i-smaller
loop-i-smaller c =
    let a = c.args in
    let 𝓕 = chosen a.field in
    let l = c.loop-i in
    omega (arith, some 𝓕 a.k a.n a.g.now a.message.now a.out.now c.requires.0)

pub loop-i-preserved : goal.loop-i-preserved
loop-i-preserved c =
    let a = c.args in
    let 𝓕 = chosen a.field in
    let l = c.loop-i in
    let w = in_blocks 𝓕 a.k a.n a.g.now a.message.now a.out.now c.requires.0 l.invariant.0 (omega arith) in
    let e = c.requires.0.size in
    let p =
    filled_part (l.b + a.n) 0 c.scaled_block.new.out l.invariant.2 (omega arith) (omega arith) (length_blocks_by 𝓕 a.k a.n a.g.now a.message.now a.out.now c.requires.0 (elem 𝓕 a.f) ∙ sym e)
    (block_part_by 𝓕 a.k a.n a.g.now a.message.now a.out.now c.requires.0 l.invariant.0 (omega arith) (elem 𝓕 a.f) c.scaled_block.ensures) in
    (reached_next 𝓕 a.k a.n a.g.now a.message.now a.out.now c.requires.0 l.invariant.0 (omega arith), filled_length p ∙ e, p)

pub shape_of-out : goal.shape_of-out
shape_of-out c =
    c.loop-i.invariant.1 ∙ sym c.requires.0.size

pub returns : goal.returns
returns c =
    let a = c.args in
    let 𝓕 = chosen a.field in
    let l = c.loop-i in
    filled_end (omega (arith, reached_end 𝓕 a.k a.n a.g.now a.message.now a.out.now c.requires.0 l.invariant.0 (omega arith), c.requires.0.size)) (length_blocks_by 𝓕 a.k a.n a.g.now a.message.now a.out.now c.requires.0 (elem 𝓕 a.f) ∙ sym c.requires.0.size) l.invariant.2

pub returns-2 : goal.returns-2
returns-2 c =
    let a = c.args in
    let 𝓕 = chosen a.field in
    let l = c.loop-i in
    let w = in_blocks 𝓕 a.k a.n a.g.now a.message.now a.out.now c.requires.0 l.invariant.0 (omega arith) in
    let e = c.requires.0.size in
    let same = length_blocks_by 𝓕 a.k a.n a.g.now a.message.now a.out.now c.requires.0 (elem 𝓕 a.f) ∙ sym e in
    let next = reached_next 𝓕 a.k a.n a.g.now a.message.now a.out.now c.requires.0 l.invariant.0 (omega arith) in
    filled_end (omega (arith, reached_end 𝓕 a.k a.n a.g.now a.message.now a.out.now c.requires.0 next (omega arith), e)) same
    (filled_part (l.b + a.n) 0 c.scaled_block.new.out l.invariant.2 (omega arith) (omega arith) same
    (block_part_by 𝓕 a.k a.n a.g.now a.message.now a.out.now c.requires.0 l.invariant.0 (omega arith) (elem 𝓕 a.f) c.scaled_block.ensures))
