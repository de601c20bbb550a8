use mathlib.Core.Path.{sym, ap, ◌∙◌}
use borrow.Author.Tests.{eqb-true}
use Rattle.std.proofs.lemmas.Result.{err_from_is_err_and}
use Rattle.job.specs.Outcome.{refused}
use Rattle.job.specs.OutcomeLaws.{after_refused, demand_held, refused_named}
use Rattle.fill_roots.specs.FillingLaws.{three_due}
use Rattle.fill_roots.proofs.Judging.{lengths_fail}
use Rattle.fill_roots.proofs.judge.Goals as goal

pub returns-in_err-require-4 : goal.returns-in_err-require-4
returns-in_err-require-4 c =
    let a = c.args.p in
    let deep = sym c.depth_ok.ensures ∙ demand_held _ _ (sym c.in_ok-require.ensures) in
    let fair = sym c.rate_ok.ensures ∙ demand_held _ _ (sym c.in_ok-require-2.ensures) in
    let one = eqb-true a.k0 1 (demand_held _ _ (sym c.in_ok-require-3.ensures)) in
    let f = refused_named _ _ (sym c.in_err-require-4.ensures) in
    let short = three_due a.depth a.rate a.k0 c.args.g c.args.t c.args.t2 deep fair one (lengths_fail a.depth a.rate deep fair (sym c.lengths_ok.ensures ∙ f.0)) in
    let p = err_from_is_err_and c.from_residual-in_err-require-4.result c.from_residual-in_err-require-4.ensures.1 in
    rw (p.1, p.2) (ap refused f.1 ∙ after_refused _ short)
