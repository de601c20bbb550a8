use mathlib.Core.Path.{◌≡◌, sym, ap, ◌∙◌}
use lib.ListN.{length}
use Rattle.job.specs.Outcome.{done, outcome}
use Rattle.residue.specs.Chosen.{chosen}
use Rattle.coefficients.specs.Job.{judge_table}
use Rattle.coefficients.specs.Judged.{table_passed}
use Rattle.coefficients.specs.Laws.{message_found}
use Rattle.coefficients.proofs.Finding.{coefficients_done}
use Rattle.coefficients.proofs.table_to_coefficients.Goals as goal

pub find-requires-clause-power : goal.find-requires-clause-power
find-requires-clause-power c =
    let a = c.args in
    (table_passed (chosen a.field) a.p.k0 a.clearances.now (length a.message.now) (sym c.judge.ensures ∙ ap outcome c.in_ok-judge.was)).power

pub returns : goal.returns
returns c =
    let a = c.args in
    let f : done tt ≡ judge_table (chosen a.field) a.p.k0 a.clearances.now (length a.message.now) = sym (ap outcome c.in_ok-judge.was) ∙ c.judge.ensures in
    let l = table_passed (chosen a.field) a.p.k0 a.clearances.now (length a.message.now) (sym f) in
    coefficients_done (chosen a.field) a.p.k0 a.clearances.now a.message.now _ f (rw c.find.ensures (message_found (chosen a.field) a.clearances.now l.power))
