use mathlib.Core.Path.{◌≡◌, sym, ap, ◌∙◌}
use Rattle.job.specs.Outcome.{outcome, require}
use Rattle.job.specs.OutcomeLaws.{held, pass}
use Rattle.queries.specs.Queries.{judge_queries}
use Rattle.queries.proofs.judge.Goals as goal

pub returns : goal.returns
unfolding judge_queries
returns c =
    let first : outcome c.require.result ≡ require c.queries_ok.result 7 = c.require.ensures in
    let passed = sym c.queries_ok.ensures ∙ held _ 7 (sym first ∙ ap outcome c.in_ok-require.was) in
    pass 7 passed (c.require-2.ensures ∙ ap (λ b. require b 11) c.distinct.ensures)
