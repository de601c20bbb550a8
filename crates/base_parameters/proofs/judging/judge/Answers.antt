use mathlib.Core.Path.{sym, ◌∙◌}
use Rattle.residue.specs.Chosen.{chosen}
use Rattle.base_parameters.specs.ParameterLaws.{flags_pass}
use Rattle.base_parameters.proofs.judging.judge.Goals as goal

pub returns-then-nothing_due : goal.returns-then-nothing_due
returns-then-nothing_due c =
    let a = c.args in
    flags_pass (chosen a.field) a.p.depth a.p.rate a.p.k0 a.lent.now.g.now a.lent.now.t.now a.lent.now.t2.now a.lent.now.block.now a.lent.now.z.now a.lent.now.y.now a.lent.now.r.now a.lent.now.opening.now a.flags.lengths a.flags.words a.flags.apart
    (sym c.nothing_due.ensures ∙ c.if-nothing_due.true)

pub returns : goal.returns
returns c = c.first_due.ensures
