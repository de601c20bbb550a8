use mathlib.Core.Path.{◌≡◌, sym, ap, ◌∙◌}
use Rattle.job.specs.Outcome.{outcome, require}
use Rattle.job.specs.OutcomeLaws.{held, pass}
use Rattle.fold_limits.proofs.judge_limits.Goals as goal

pub returns : goal.returns
returns c =
    let first : outcome c.require.result ≡ require c.level_ok.result 1 = c.require.ensures in
    let second : outcome c.require-2.result ≡ require c.rate_ok.result 2 = c.require-2.ensures in
    let level = sym c.level_ok.ensures ∙ held _ 1 (sym first ∙ ap outcome c.in_ok-require.was) in
    let rate = sym c.rate_ok.ensures ∙ held _ 2 (sym second ∙ ap outcome c.in_ok-require-2.was) in
    pass 1 level (pass 2 rate (c.require-3.ensures ∙ ap (λ b. require b 13) c.k0_ok.ensures))
