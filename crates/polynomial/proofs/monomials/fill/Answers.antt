use native.Mathlib.Omega.{arith}
use Rattle.residue.specs.Chosen.{chosen}
use Rattle.polynomial.proofs.LowMonomials.{grown_none, room, extensible, grown_turn, grown_end}
use Rattle.polynomial.proofs.monomials.fill.Goals as goal

pub loop-i-init : goal.loop-i-init
loop-i-init c =
    (omega arith, grown_none (chosen c.args.field) c.args.z.now c.args.w.now c.requires.0)

pub extend-requires : goal.extend-requires
extend-requires c =
    let l = c.loop-i in
    extensible (chosen c.args.field) c.args.z.now l.i l.size l.w l.invariant.1 (omega arith) _ (c.requires.1.low _ (omega arith))

pub overflow_add-size : goal.overflow_add-size
overflow_add-size c =
    let l = c.loop-i in
    omega (arith, room (chosen c.args.field) _ l.i l.size l.w l.invariant.1 (omega arith))

pub loop-i-preserved : goal.loop-i-preserved
loop-i-preserved c =
    let l = c.loop-i in
    (omega arith, grown_turn (chosen c.args.field) _ l.i l.size l.w l.invariant.1 (omega arith) (omega arith) _ c.extend.ensures)

pub returns : goal.returns
returns c =
    let l = c.loop-i in
    grown_end (chosen c.args.field) _ l.i l.size l.w l.invariant.1 (omega arith) (λ p q. omega (arith, c.min-k.ensures))
