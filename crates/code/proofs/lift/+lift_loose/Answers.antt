use native.Mathlib.Omega.{arith}
use borrow.Author.Rules.{rules}
use lib.ListN.{length-take}
use Rattle.residue.specs.Chosen.{chosen}
use Rattle.residue.specs.Elements.{el}
use Rattle.residue.specs.Scale.{scale}
use Rattle.code.proofs.Levels.{lift_left, lift_right, halved, halved_length, end_first, end_second, crossing, level}
use Rattle.code.proofs.lift.+lift_loose.Goals as goal

pub low_levels-requires : goal.low_levels-requires
low_levels-requires t c =
    let a = c.args in
    (omega arith, c.requires)

pub returns-then-depth-le-LOW : goal.returns-then-depth-le-LOW
returns-then-depth-le-LOW t c = c.low_levels.ensures

pub half_of-p-requires : goal.half_of-p-requires
half_of-p-requires t c =
    let a = c.args in
    (omega arith, c.requires.size)

pub slice_bounds-lift_loose-end-2 : goal.slice_bounds-lift_loose-end-2
slice_bounds-lift_loose-end-2 t c = simp length-take (omega arith)

pub lift_loose-requires : goal.lift_loose-requires
lift_loose-requires t c =
    let a = c.args in
    let p = c.half_of-p in
    (omega arith, lift_left (chosen a.field) (el (chosen a.field) (scale a.field)) a.depth a.g.now a.t.now a.t2.now a.out.now c.requires p.result.half p.result.off p.result.end p.result.low p.ensures)

pub lift_loose-requires-2 : goal.lift_loose-requires-2
lift_loose-requires-2 t c =
    let a = c.args in
    let p = c.half_of-p in
    let u = c.lift_loose in
    (omega arith, lift_right (chosen a.field) (el (chosen a.field) (scale a.field)) a.depth a.g.now a.t.now a.t2.now a.out.now c.requires p.result.half p.result.off p.result.end p.result.low p.ensures u.new.out u.auto.out)

pub offset_bounds-t-off : goal.offset_bounds-t-off
offset_bounds-t-off t c =
    let a = c.args in
    let p = c.half_of-p in
    omega (arith, end_first (chosen a.field) (el (chosen a.field) (scale a.field)) a.depth a.g.now a.t.now a.t2.now a.out.now c.requires p.result.half p.result.off p.result.end p.result.low p.ensures, p.ensures.end_is, c.well_formed.1.1.0.1)

pub slice_bounds-cross-end : goal.slice_bounds-cross-end
slice_bounds-cross-end t c =
    let a = c.args in
    let p = c.half_of-p in
    end_first (chosen a.field) (el (chosen a.field) (scale a.field)) a.depth a.g.now a.t.now a.t2.now a.out.now c.requires p.result.half p.result.off p.result.end p.result.low p.ensures

pub offset_bounds-t2-off : goal.offset_bounds-t2-off
offset_bounds-t2-off t c =
    let a = c.args in
    let p = c.half_of-p in
    omega (arith, end_second (chosen a.field) (el (chosen a.field) (scale a.field)) a.depth a.g.now a.t.now a.t2.now a.out.now c.requires p.result.half p.result.off p.result.end p.result.low p.ensures, p.ensures.end_is, c.well_formed.1.1.1.0.1)

pub slice_bounds-cross-end-2 : goal.slice_bounds-cross-end-2
slice_bounds-cross-end-2 t c =
    let a = c.args in
    let p = c.half_of-p in
    end_second (chosen a.field) (el (chosen a.field) (scale a.field)) a.depth a.g.now a.t.now a.t2.now a.out.now c.requires p.result.half p.result.off p.result.end p.result.low p.ensures

pub cross-requires : goal.cross-requires
cross-requires t c =
    let a = c.args in
    let p = c.half_of-p in
    let u = c.lift_loose in
    let v = c.lift_loose-2 in
    let h = halved (chosen a.field) (el (chosen a.field) (scale a.field)) a.depth a.g.now a.t.now a.t2.now a.out.now c.requires p.result.half p.result.off p.result.end p.result.low p.ensures u.new.out u.auto.out v.new.out v.auto.out u.ensures v.ensures in
    crossing (chosen a.field) (el (chosen a.field) (scale a.field)) a.depth a.g.now a.t.now a.t2.now a.out.now c.requires p.result.half p.result.off p.result.end p.result.low p.ensures _ h

pub shape_of-out : goal.shape_of-out
shape_of-out t c =
    let a = c.args in
    let p = c.half_of-p in
    let u = c.lift_loose in
    let v = c.lift_loose-2 in
    let h = halved (chosen a.field) (el (chosen a.field) (scale a.field)) a.depth a.g.now a.t.now a.t2.now a.out.now c.requires p.result.half p.result.off p.result.end p.result.low p.ensures u.new.out u.auto.out v.new.out v.auto.out u.ensures v.ensures in
    search (rules, halved_length (chosen a.field) (el (chosen a.field) (scale a.field)) a.depth a.g.now a.t.now a.t2.now a.out.now c.requires p.result.half p.result.off p.result.end p.result.low p.ensures _ h)

pub returns : goal.returns
returns t c =
    let a = c.args in
    let p = c.half_of-p in
    let u = c.lift_loose in
    let v = c.lift_loose-2 in
    let h = halved (chosen a.field) (el (chosen a.field) (scale a.field)) a.depth a.g.now a.t.now a.t2.now a.out.now c.requires p.result.half p.result.off p.result.end p.result.low p.ensures u.new.out u.auto.out v.new.out v.auto.out u.ensures v.ensures in
    level (chosen a.field) (el (chosen a.field) (scale a.field)) a.depth a.g.now a.t.now a.t2.now a.out.now c.requires p.result.half p.result.off p.result.end p.result.low p.ensures _ h _ c.cross.ensures
