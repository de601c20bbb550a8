use native.Mathlib.Omega.{arith}
use Rattle.residue.specs.Chosen.{chosen}
use Rattle.halves_step.proofs.Peeling.{parts_none, parts_low, parts_turn, parts_end}
use Rattle.halves_step.proofs.peel.peel_front.Goals as goal

pub loop-i-init : goal.loop-i-init
loop-i-init c =
    let a = c.args in
    let w = c.split_at_mut-u.ensures in
    let b = c.split_at.ensures in
    parts_none (chosen a.field) a.t.now a.t2.now a.w.now c.requires w.front w.back b.front b.back

pub peel_at-p-requires : goal.peel_at-p-requires
peel_at-p-requires c =
    let l = c.loop-i in
    let a = c.args in
    let w = c.split_at_mut-u.ensures in
    let b = c.split_at.ensures in
    let low = parts_low (chosen a.field) a.t.now a.t2.now a.w.now c.requires w.front w.back b.front b.back l.i l.ok l.u (omega arith) l.invariant in
    let x = c.requires.low.low l.i (omega arith) in
    let y = c.requires.low'.low l.i (omega (arith, c.requires.second)) in
    record { word = low.0; first = omega arith; second = omega arith; right = low.1 }

pub loop-i-preserved : goal.loop-i-preserved
loop-i-preserved c =
    let l = c.loop-i in
    let a = c.args in
    let w = c.split_at_mut-u.ensures in
    let b = c.split_at.ensures in
    parts_turn (chosen a.field) a.t.now a.t2.now a.w.now c.requires w.front w.back b.front b.back l.i l.ok l.u (omega arith) l.invariant _ _ c.peel_at-p.ensures.0 c.peel_at-p.ensures.1

pub returns : goal.returns
returns c =
    let l = c.loop-i in
    let a = c.args in
    let w = c.split_at_mut-u.ensures in
    let b = c.split_at.ensures in
    parts_end (chosen a.field) a.t.now a.t2.now a.w.now c.requires w.front w.back b.front b.back l.i l.ok l.u (omega arith) l.invariant
