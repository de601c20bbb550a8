use lib.ListN.{length-set}
use mathlib.Core.Path.{refl}
use native.Mathlib.Omega.{arith}
use Rattle.residue.specs.Chosen.{chosen}
use Rattle.residue.specs.Scale.{scale}
use Rattle.passes.proofs.Crossing.{cross_none, cross_length, right_loose, sum_asks, cross_turn, cross_end}
use Rattle.residue.specs.ScaleLaws.{share, scale_unit}
use Rattle.passes.proofs.cross.Goals as goal

pub loop-i-init : goal.loop-i-init
loop-i-init c = let a = c.args in (omega arith, refl, cross_none (chosen a.field) (scale a.field) (share a.field) (scale_unit a.field) a.t.now a.t2.now a.out.now c.requires)

pub ready-r-requires : goal.ready-r-requires
ready-r-requires c =
    let l = c.loop-i in
    let a = c.args in
    right_loose (chosen a.field) (scale a.field) (share a.field) (scale_unit a.field) a.t.now a.t2.now a.out.now c.requires l.i l.out l.invariant.2 (omega arith)

pub plus_product_loose-a-requires : goal.plus_product_loose-a-requires
plus_product_loose-a-requires c =
    let l = c.loop-i in
    let a = c.args in
    let p = sum_asks (chosen a.field) (scale a.field) (share a.field) (scale_unit a.field) a.t.now a.t2.now a.out.now c.requires l.i l.out l.invariant.2 (omega arith) in
    (omega arith, omega arith, c.ready-r.ensures.0)

pub plus_product_loose-b-requires : goal.plus_product_loose-b-requires
plus_product_loose-b-requires c =
    let l = c.loop-i in
    let a = c.args in
    let p = sum_asks (chosen a.field) (scale a.field) (share a.field) (scale_unit a.field) a.t.now a.t2.now a.out.now c.requires l.i l.out l.invariant.2 (omega arith) in
    (omega arith, omega arith, c.ready-r.ensures.0)

pub bounds-out-k-in-loop-i : goal.bounds-out-k-in-loop-i
bounds-out-k-in-loop-i c = simp length-set (omega arith)

pub loop-i-preserved : goal.loop-i-preserved
loop-i-preserved c =
    let l = c.loop-i in
    let a = c.args in
    let p = cross_turn (chosen a.field) (scale a.field) (share a.field) (scale_unit a.field) a.t.now a.t2.now a.out.now c.requires l.i l.out l.invariant.2 _ _ _ (omega arith) c.ready-r.ensures c.plus_product_loose-a.ensures c.plus_product_loose-b.ensures in
    (omega arith, cross_length (chosen a.field) (scale a.field) (share a.field) (scale_unit a.field) a.t.now a.t2.now a.out.now c.requires _ _ p, p)

pub returns : goal.returns
returns c =
    let l = c.loop-i in
    let a = c.args in
    cross_end (chosen a.field) (scale a.field) (share a.field) (scale_unit a.field) a.t.now a.t2.now a.out.now c.requires l.i l.out l.invariant.2 (omega arith)
