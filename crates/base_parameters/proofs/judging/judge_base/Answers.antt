use mathlib.Core.Path.{sym, ap, ◌∙◌}
use Rattle.residue.specs.Chosen.{chosen}
use Rattle.job.specs.declared.Refusal.TheVariants.{BaseRow}
use Rattle.job.specs.Outcome.{demand, due}
use Rattle.base_parameters.specs.ParameterLaws.{base_of_one, base_of_more, base_asked, base_answer}
use Rattle.base_parameters.proofs.judging.judge_base.Goals as goal

pub returns-then-p-eq1 : goal.returns-then-p-eq1
returns-then-p-eq1 c =
    let a = c.args in
    c.judge_row.ensures ∙ sym (base_of_one (chosen a.field) a.p.k0 _ a.g.now c.if-p-eq1.true)

pub base_ok-requires : goal.base_ok-requires
base_ok-requires c =
    let a = c.args in
    base_asked (chosen a.field) a.p.depth a.p.rate a.p.k0 a.g.now c.requires c.base_len.ensures

pub returns : goal.returns
returns c =
    let a = c.args in
    c.require.ensures
    ∙ ap (λ b. demand b (due (BaseRow 0))) (base_answer (chosen a.field) a.p.depth a.p.rate a.p.k0 a.g.now c.requires c.base_len.ensures c.base_ok.ensures)
    ∙ sym (base_of_more (chosen a.field) a.p.k0 _ a.g.now c.if-p-eq1.false)
