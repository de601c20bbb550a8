use Prim.Native.Nat.{◌-◌}
use native.Mathlib.Omega.{arith}
use lib.ListN.{length}
use Rattle.residue.specs.Chosen.{chosen}
use Rattle.residue.specs.ResidueLaws.{is_low}
use Rattle.base_checks.proofs.FinalCheck.{value_lent, eq_lent, final_fails, final_holds}
use Rattle.std.proofs.Common.{ap, not}
use Rattle.base_checks.proofs.last.last.Goals as goal

pub value-f-requires : goal.value-f-requires
value-f-requires c =
    let a = c.args in
    let n = length a.z.now in
    let high = length a.r.now in
    value_lent (chosen a.field) a.claim a.v.now a.z.now a.r.now c.requires 0 (n - high) (omega (arith, c.requires.fewer)) (omega (arith, c.requires.fewer))

pub eq-e-requires : goal.eq-e-requires
eq-e-requires c =
    let a = c.args in
    eq_lent (chosen a.field) a.claim a.v.now a.z.now a.r.now c.requires

pub times-product-requires : goal.times-product-requires
times-product-requires c =
    let 𝓕 = chosen c.args.field in
    (is_low 𝓕 _ c.value-f.ensures, is_low 𝓕 _ c.eq-e.ensures)

pub returns-then-not-same : goal.returns-then-not-same
returns-then-not-same c =
    let a = c.args in
    final_fails (chosen a.field) a.claim a.v.now a.z.now a.r.now c.requires _ _ _ _ c.value-f.ensures
    c.eq-e.ensures c.times-product.ensures c.same.ensures (ap not c.if-not-same.true)

pub returns : goal.returns
returns c =
    let a = c.args in
    final_holds (chosen a.field) a.claim a.v.now a.z.now a.r.now c.requires _ _ _ _ c.value-f.ensures
    c.eq-e.ensures c.times-product.ensures c.same.ensures (ap not c.if-not-same.false)
