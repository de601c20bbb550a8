use mathlib.Core.Path.{sym}
use lib.Seq.{length-take-le}
use Rattle.residue.specs.Chosen.{chosen}
use Rattle.base_spread.proofs.Scaling.{few, prefix_room, front_length, scaled_lent, scaled_is}
use Rattle.base_spread.proofs.spread.scaled_block.Goals as goal

pub slice_bounds-words-end : goal.slice_bounds-words-end
slice_bounds-words-end c =
    let a = c.args in
    few (chosen a.field) a.n a.g.now a.m.now a.out.now c.requires.0

pub slice_bounds-scale-end : goal.slice_bounds-scale-end
slice_bounds-scale-end c =
    let a = c.args in
    sym (length-take-le _ _ (few (chosen a.field) a.n a.g.now a.m.now a.out.now c.requires.0))

pub scale-requires : goal.scale-requires
scale-requires c =
    let a = c.args in
    (c.requires.1, c.requires.0.low, length-take-le _ _ (few (chosen a.field) a.n a.g.now a.m.now a.out.now c.requires.0))

pub slice_bounds-words-end-2 : goal.slice_bounds-words-end-2
slice_bounds-words-end-2 c =
    let a = c.args in
    prefix_room (chosen a.field) a.n a.g.now a.m.now a.out.now c.requires.0 a.f.0 _ c.scale.ensures _

pub slice_bounds-base_block-end : goal.slice_bounds-base_block-end
slice_bounds-base_block-end c =
    let a = c.args in
    sym (front_length (chosen a.field) a.n a.g.now a.m.now a.out.now c.requires.0 a.f.0 _ c.scale.ensures _)

pub base_block-requires : goal.base_block-requires
base_block-requires c =
    let a = c.args in
    scaled_lent (chosen a.field) a.n a.g.now a.m.now a.out.now c.requires.0 a.f.0 _ c.scale.ensures _

pub returns : goal.returns
returns c =
    let a = c.args in
    scaled_is (chosen a.field) a.n a.g.now a.m.now a.out.now c.requires.0 a.f.0 _ c.scale.ensures _ _ c.base_block.ensures
