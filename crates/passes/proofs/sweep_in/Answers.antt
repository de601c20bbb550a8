use native.Mathlib.Omega.{arith}
use Rattle.residue.specs.Chosen.{chosen}
use Rattle.residue.specs.Elements.{el}
use Rattle.residue.specs.Scale.{scale}
use Rattle.passes.proofs.Sweeping.{swept_none, swept_length, swept_end, swept_room, swept_asks, swept_turn}
use Rattle.residue.specs.ScaleLaws.{share, scale_unit}
use Rattle.passes.proofs.sweep_in.Goals as goal

pub loop-i-init : goal.loop-i-init
loop-i-init c = let a = c.args in swept_none (chosen a.field) (el (chosen a.field) (scale a.field)) (share a.field) (scale_unit a.field) a.count a.t.now a.t2.now a.out.now c.requires

pub overflow_add-e : goal.overflow_add-e
overflow_add-e c =
    let l = c.loop-i in
    let a = c.args in
    let r = swept_room (chosen a.field) (el (chosen a.field) (scale a.field)) (share a.field) (scale_unit a.field) a.count a.t.now a.t2.now a.out.now c.requires l.i l.b l.out l.invariant (omega arith) in
    omega arith

pub overflow_add-e-in-loop-i : goal.overflow_add-e-in-loop-i
overflow_add-e-in-loop-i c =
    let l = c.loop-i in
    let a = c.args in
    let r = swept_room (chosen a.field) (el (chosen a.field) (scale a.field)) (share a.field) (scale_unit a.field) a.count a.t.now a.t2.now a.out.now c.requires l.i l.b l.out l.invariant (omega arith) in
    omega arith

pub offset_bounds-out-b : goal.offset_bounds-out-b
offset_bounds-out-b c =
    let l = c.loop-i in
    let a = c.args in
    let r = swept_room (chosen a.field) (el (chosen a.field) (scale a.field)) (share a.field) (scale_unit a.field) a.count a.t.now a.t2.now a.out.now c.requires l.i l.b l.out l.invariant (omega arith) in
    omega arith

pub slice_bounds-cross-end : goal.slice_bounds-cross-end
slice_bounds-cross-end c =
    let l = c.loop-i in
    let a = c.args in
    let r = swept_room (chosen a.field) (el (chosen a.field) (scale a.field)) (share a.field) (scale_unit a.field) a.count a.t.now a.t2.now a.out.now c.requires l.i l.b l.out l.invariant (omega arith) in
    let n = swept_length (chosen a.field) (el (chosen a.field) (scale a.field)) (share a.field) (scale_unit a.field) a.count a.t.now a.t2.now a.out.now c.requires l.i l.b l.out l.invariant in
    omega arith

pub cross-requires : goal.cross-requires
cross-requires c =
    let l = c.loop-i in
    let a = c.args in
    swept_asks (chosen a.field) (el (chosen a.field) (scale a.field)) (share a.field) (scale_unit a.field) a.count a.t.now a.t2.now a.out.now c.requires l.i l.b l.out l.invariant (omega arith)

pub loop-i-preserved : goal.loop-i-preserved
loop-i-preserved c =
    let l = c.loop-i in
    let a = c.args in
    swept_turn (chosen a.field) (el (chosen a.field) (scale a.field)) (share a.field) (scale_unit a.field) a.count a.t.now a.t2.now a.out.now c.requires l.i l.b l.out l.invariant (omega arith) _ c.cross.ensures

pub shape_of-out : goal.shape_of-out
shape_of-out c =
    let l = c.loop-i in
    let a = c.args in
    swept_length (chosen a.field) (el (chosen a.field) (scale a.field)) (share a.field) (scale_unit a.field) a.count a.t.now a.t2.now a.out.now c.requires l.i l.b l.out l.invariant

pub returns : goal.returns
returns c =
    let l = c.loop-i in
    let a = c.args in
    swept_end (chosen a.field) (el (chosen a.field) (scale a.field)) (share a.field) (scale_unit a.field) a.count a.t.now a.t2.now a.out.now c.requires l.i l.b l.out l.invariant (omega arith)
