use native.Mathlib.Omega.{arith}
use Rattle.residue.specs.Chosen.{chosen}
use Rattle.algebra.specs.Flags.{passes, fails}
use Rattle.claims.proofs.SumChecks.{sums_none, sums_end, sums_fails, sums_turn, round_sent}
use Rattle.std.proofs.Common.{ap, not}
use Rattle.claims.proofs.sums.sums.Goals as goal

pub loop-i-init : goal.loop-i-init
loop-i-init c = let a = c.args in sums_none (chosen a.field) a.depth a.y a.r.now a.opening.now c.requires

pub sum_holds-requires : goal.sum_holds-requires
sum_holds-requires c =
    let a = c.args in
    let l = c.loop-i in
    (l.invariant.low, round_sent (chosen a.field) a.depth a.y a.r.now a.opening.now c.requires l.i l.claim l.invariant c.loop-i-test.true)

pub returns-then-not-sum_holds : goal.returns-then-not-sum_holds
returns-then-not-sum_holds c =
    let a = c.args in
    let l = c.loop-i in
    sums_fails (chosen a.field) a.depth a.y a.r.now a.opening.now c.requires l.i l.claim l.invariant c.loop-i-test.true (fails c.sum_holds.ensures (ap not c.if-not-sum_holds.true))

pub loop-i-preserved : goal.loop-i-preserved
loop-i-preserved c =
    let a = c.args in
    let l = c.loop-i in
    sums_turn (chosen a.field) a.depth a.y a.r.now a.opening.now c.requires l.i l.claim _ l.invariant c.loop-i-test.true (passes c.sum_holds.ensures (ap not c.if-not-sum_holds.false)) c.next_claim-claim.ensures

pub returns : goal.returns
returns c =
    let a = c.args in
    let l = c.loop-i in
    sums_end (chosen a.field) a.depth a.y a.r.now a.opening.now c.requires l.i l.claim l.invariant (λ h. omega arith)
