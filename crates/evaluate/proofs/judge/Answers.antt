use mathlib.Core.Path.{sym, ap, ◌∙◌}
use native.Mathlib.Omega.{arith}
use Rattle.job.specs.Outcome.{outcome}
use Rattle.job.specs.OutcomeLaws.{held}
use Rattle.residue.specs.Chosen.{chosen}
use Rattle.evaluate.proofs.Judged.{short, words_due}
use Rattle.evaluate.proofs.judge.Goals as goal

pub judge_without_row-requires : goal.judge_without_row-requires
judge_without_row-requires c =
    let a = c.args in
    short a.p.depth a.p.k0 a.m.now a.z.now (sym c.lengths_ok.ensures ∙ held _ 3 (sym c.require.ensures ∙ ap outcome c.in_ok-require.was))

pub returns : goal.returns
returns c =
    let a = c.args in
    words_due (chosen a.field) a.p.depth a.p.k0 a.m.now a.z.now (sym c.lengths_ok.ensures ∙ held _ 3 (sym c.require.ensures ∙ ap outcome c.in_ok-require.was)) (grind arith) c.judge_without_row.ensures
