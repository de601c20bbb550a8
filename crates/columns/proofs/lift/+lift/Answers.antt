use native.Mathlib.Omega.{arith}
use lib.ListN.{length-take}
use Rattle.residue.specs.Chosen.{chosen}
use Rattle.columns.proofs.Lifting.{lift_none, half_within, lift_left, right_within, lift_right, crossing, level}
use Rattle.columns.proofs.lift.+lift.Goals as goal

pub returns-then-depth-eq0 : goal.returns-then-depth-eq0
returns-then-depth-eq0 t c =
    let a = c.args in
    lift_none (chosen a.field) a.depth a.j a.g.now a.t.now a.t2.now a.w.now c.requires (omega arith)

pub column_half-p-requires : goal.column_half-p-requires
column_half-p-requires t c =
    let a = c.args in
    (omega arith, c.requires.depth, c.requires.column, c.requires.wide)

pub slice_bounds-lift-end : goal.slice_bounds-lift-end
slice_bounds-lift-end t c =
    let a = c.args in
    let p = c.column_half-p in
    half_within (chosen a.field) a.depth a.j a.g.now a.t.now a.t2.now a.w.now c.requires p.result.half p.result.off p.result.low p.ensures

pub slice_bounds-lift-end-2 : goal.slice_bounds-lift-end-2
slice_bounds-lift-end-2 t c =
    let a = c.args in
    let p = c.column_half-p in
    simp length-take (omega (arith, half_within (chosen a.field) a.depth a.j a.g.now a.t.now a.t2.now a.w.now c.requires p.result.half p.result.off p.result.low p.ensures))

pub lift-requires : goal.lift-requires
lift-requires t c =
    let a = c.args in
    let p = c.column_half-p in
    (omega (arith, p.ensures.low_is, c.decreases), lift_left (chosen a.field) a.depth a.j a.g.now a.t.now a.t2.now a.w.now c.requires p.result.half p.result.off p.result.low p.ensures)

pub offset_bounds-w-half : goal.offset_bounds-w-half
offset_bounds-w-half t c =
    let a = c.args in
    let p = c.column_half-p in
    omega (arith, half_within (chosen a.field) a.depth a.j a.g.now a.t.now a.t2.now a.w.now c.requires p.result.half p.result.off p.result.low p.ensures)

pub slice_bounds-lift-count : goal.slice_bounds-lift-count
slice_bounds-lift-count t c =
    let a = c.args in
    let p = c.column_half-p in
    right_within (chosen a.field) a.depth a.j a.g.now a.t.now a.t2.now a.w.now c.requires p.result.half p.result.off p.result.low p.ensures c.lift.new.w c.lift.auto.w

pub slice_bounds-lift-start : goal.slice_bounds-lift-start
slice_bounds-lift-start t c =
    let a = c.args in
    let p = c.column_half-p in
    right_within (chosen a.field) a.depth a.j a.g.now a.t.now a.t2.now a.w.now c.requires p.result.half p.result.off p.result.low p.ensures c.lift.new.w c.lift.auto.w

pub lift-requires-2 : goal.lift-requires-2
lift-requires-2 t c =
    let a = c.args in
    let p = c.column_half-p in
    (omega (arith, p.ensures.low_is, c.decreases), lift_right (chosen a.field) a.depth a.j a.g.now a.t.now a.t2.now a.w.now c.requires p.result.half p.result.off p.result.low p.ensures c.lift.new.w c.lift.auto.w)

pub cross-requires : goal.cross-requires
cross-requires t c =
    let a = c.args in
    let p = c.column_half-p in
    crossing (chosen a.field) a.depth a.j a.g.now a.t.now a.t2.now a.w.now c.requires p.result.half p.result.off p.result.low p.ensures c.lift.new.w c.lift.auto.w c.lift-2.new.w c.lift-2.auto.w c.lift.ensures c.lift-2.ensures

pub returns : goal.returns
returns t c =
    let a = c.args in
    let p = c.column_half-p in
    level (chosen a.field) a.depth a.j a.g.now a.t.now a.t2.now a.w.now c.requires p.result.half p.result.off p.result.low p.ensures c.lift.new.w c.lift.auto.w c.lift-2.new.w c.lift-2.auto.w _ c.lift.ensures c.lift-2.ensures c.cross.ensures
