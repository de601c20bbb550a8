use native.Mathlib.Omega.{arith}
use Rattle.residue.specs.Chosen.{chosen}
use Rattle.transform.specs.Passes.{across}
use Rattle.transform.proofs.Passing.{passing_none, passing_room, passing_length, passing_asks, passing_turn, passing_end}
use Rattle.transform.proofs.pass.Goals as goal

pub loop-i-init : goal.loop-i-init
loop-i-init c =
    let a = c.args in
    let 𝓕 = chosen a.field in
    passing_none 𝓕 (across 𝓕 a.way) a.half a.count a.s.now c.requires.0 c.requires.1

pub overflow_add-end : goal.overflow_add-end
overflow_add-end c = let r = passing_room _ c.loop-i.invariant (omega arith) in omega arith

pub overflow_add-end-in-loop-i : goal.overflow_add-end-in-loop-i
overflow_add-end-in-loop-i c = let r = passing_room _ c.loop-i.invariant (omega arith) in omega arith

pub offset_bounds-s-at : goal.offset_bounds-s-at
offset_bounds-s-at c = let r = passing_room _ c.loop-i.invariant (omega arith) in omega arith

pub slice_bounds-cross-end : goal.slice_bounds-cross-end
slice_bounds-cross-end c = let r = passing_room _ c.loop-i.invariant (omega arith) in let n = passing_length _ c.loop-i.invariant in omega arith

pub cross-requires : goal.cross-requires
cross-requires c = passing_asks _ c.loop-i.invariant (omega arith)

pub loop-i-preserved : goal.loop-i-preserved
loop-i-preserved c = passing_turn _ c.loop-i.invariant (omega arith) c.cross.ensures

pub shape_of-s : goal.shape_of-s
shape_of-s c = passing_length _ c.loop-i.invariant

pub returns : goal.returns
returns c = passing_end _ c.loop-i.invariant (omega arith)
