use mathlib.Core.Path.{sym, ap}
use native.Mathlib.Omega.{arith}
use Rattle.job.specs.SizeLaws.{low_most}
use Rattle.residue.specs.Chosen.{chosen}
use Rattle.verdict.specs.Verdicts.{numbers_of}
use Rattle.verify.proofs.Judged.{value_low, all_within, checks_input, refusal_due, failure_due}
use Rattle.verify.proofs.verify_opening.Goals as goal

pub returns-in-Err : goal.returns-in-Err
returns-in-Err c =
    let a = c.args in
    ap numbers_of (refusal_due (chosen a.field) a.p.depth a.p.rate a.p.k0 a.g.now a.t.now a.t2.now a.block.now a.z.now a.y a.r.now a.queries.now a.opening.now c.in-Err.ensures)

pub new-claim-requires : goal.new-claim-requires
new-claim-requires c =
    let a = c.args in
    value_low (chosen a.field) a.p.depth a.p.rate a.p.k0 a.g.now a.t.now a.t2.now a.block.now a.z.now a.y a.r.now a.queries.now a.opening.now (sym c.in_default.ensures)

pub overflow_cast-low : goal.overflow_cast-low
overflow_cast-low c = record { fits = omega (arith, c.low_len-low.ensures, low_most c.args.p.k0) }

pub base_len-n-requires : goal.base_len-n-requires
base_len-n-requires c =
    let a = c.args in
    all_within (chosen a.field) a.p.depth a.p.rate a.p.k0 a.g.now a.t.now a.t2.now a.block.now a.z.now a.y a.r.now a.queries.now a.opening.now (sym c.in_default.ensures)

pub checks_rows-requires : goal.checks_rows-requires
checks_rows-requires c =
    let a = c.args in
    checks_input (chosen a.field) a.p.depth a.p.rate a.p.k0 a.g.now a.t.now a.t2.now a.block.now a.z.now a.y a.r.now a.queries.now a.opening.now (sym c.in_default.ensures) c.low_len-low.ensures c.base_len-n.ensures _ c.new-claim.ensures

pub returns-in-Ok : goal.returns-in-Ok
returns-in-Ok c =
    let a = c.args in
    ap numbers_of (failure_due (chosen a.field) a.p.depth a.p.rate a.p.k0 a.g.now a.t.now a.t2.now a.block.now a.z.now a.y a.r.now a.queries.now a.opening.now c.low_len-low.ensures c.base_len-n.ensures _ c.new-claim.ensures c.in_default.ensures c.in-Ok.ensures)

pub returns-in-Err-checks_rows : goal.returns-in-Err-checks_rows
returns-in-Err-checks_rows c =
    let a = c.args in
    ap numbers_of (failure_due (chosen a.field) a.p.depth a.p.rate a.p.k0 a.g.now a.t.now a.t2.now a.block.now a.z.now a.y a.r.now a.queries.now a.opening.now c.low_len-low.ensures c.base_len-n.ensures _ c.new-claim.ensures c.in_default.ensures c.in-Err-checks_rows.ensures)
