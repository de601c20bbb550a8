use mathlib.Core.Path.{refl}
use native.Mathlib.Omega.{arith}
use Rattle.residue.specs.Chosen.{chosen}
use Rattle.halves_step.proofs.Peeling.{lent_none, lent_length, lent_low, lent_turn, lent_end}
use Rattle.halves_step.proofs.peel.peel_lent.Goals as goal

pub loop-i-init : goal.loop-i-init
loop-i-init c = let a = c.args in (omega arith, refl, lent_none (chosen a.field) a.t.now a.t2.now a.block.now a.out.now c.requires)

pub peel_at-p-requires : goal.peel_at-p-requires
peel_at-p-requires c =
    let l = c.loop-i in
    let a = c.args in
    let x = c.requires.low.low l.i (omega arith) in
    let y = c.requires.low'.low l.i (omega arith) in
    let u = c.requires.block.low l.i (omega arith) in
    let r = lent_low (chosen a.field) a.t.now a.t2.now a.block.now a.out.now c.requires l.i l.ok l.out (omega arith) l.invariant.2 in
    record { word = omega arith; first = omega arith; second = omega arith; right = omega arith }

pub loop-i-preserved : goal.loop-i-preserved
loop-i-preserved c =
    let l = c.loop-i in
    let a = c.args in
    let p = lent_turn (chosen a.field) a.t.now a.t2.now a.block.now a.out.now c.requires l.i l.ok l.out (omega arith) l.invariant.2 _ _ c.peel_at-p.ensures.0 c.peel_at-p.ensures.1 in
    (omega arith, lent_length (chosen a.field) a.t.now a.t2.now a.block.now a.out.now c.requires _ _ _ p, p)

pub returns : goal.returns
returns c =
    let l = c.loop-i in
    let a = c.args in
    lent_end (chosen a.field) a.t.now a.t2.now a.block.now a.out.now c.requires l.i l.ok l.out (omega arith) l.invariant.2
