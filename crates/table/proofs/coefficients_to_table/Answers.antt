use mathlib.Core.Path.{sym, ap, ◌∙◌}
use lib.ListN.{length}
use Rattle.job.specs.Outcome.{outcome}
use Rattle.residue.specs.Chosen.{chosen}
use Rattle.words.specs.ScanLaws.{all_below_lem}
use Rattle.table.specs.Judged.{message_passed}
use Rattle.table.proofs.Finding.{tables_done}
use Rattle.table.proofs.coefficients_to_table.Goals as goal

pub find-requires-clause-message : goal.find-requires-clause-message
find-requires-clause-message c =
    let a = c.args in
    let l = message_passed (chosen a.field) a.p.k0 a.message.now (length a.clearances.now) (length a.work.now) (sym c.judge.ensures ∙ ap outcome c.in_ok-judge.was) in
    (l.power, all_below_lem (chosen a.field) _ l.below)

pub find-requires-clause-lengths : goal.find-requires-clause-lengths
find-requires-clause-lengths c =
    let a = c.args in
    let l = message_passed (chosen a.field) a.p.k0 a.message.now (length a.clearances.now) (length a.work.now) (sym c.judge.ensures ∙ ap outcome c.in_ok-judge.was) in
    (l.same, l.room)

pub returns : goal.returns
returns c =
    let a = c.args in
    let e = c.find.ensures in
    tables_done (chosen a.field) a.p.k0 a.message.now a.clearances.now a.work.now _ _ (sym (ap outcome c.in_ok-judge.was) ∙ c.judge.ensures) e.0 e.1
