use mathlib.Core.Path.{refl}
use native.Mathlib.Omega.{arith}
use lib.Dec.{eqb}
use Rattle.algebra.specs.Tests.{all₂_none, all₂_turn, all₂_end}
use Rattle.base_halves_step.proofs.base.same_words.Goals as goal

pub loop-i-init : goal.loop-i-init
loop-i-init c = let a = c.args in (omega arith, all₂_none eqb a.a.now a.b.now)

pub bounds-b-i : goal.bounds-b-i
bounds-b-i c = omega (arith, c.requires)

pub loop-i-preserved : goal.loop-i-preserved
loop-i-preserved c =
    let l = c.loop-i in
    let a = c.args in
    (omega arith, all₂_turn eqb l.i a.a.now a.b.now 0 (omega arith) (omega (arith, c.requires)) l.invariant.1 refl)

pub returns : goal.returns
returns c =
    let l = c.loop-i in
    let a = c.args in
    all₂_end eqb l.i a.a.now a.b.now (λ h k. absurd (omega arith)) l.invariant.1
