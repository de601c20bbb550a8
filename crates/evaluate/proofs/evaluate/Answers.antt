use mathlib.Core.Path.{sym, ap, ◌∙◌}
use Rattle.job.specs.Outcome.{outcome}
use Rattle.residue.specs.Chosen.{chosen}
use Rattle.evaluate.proofs.Judged.{evaluates}
use Rattle.evaluate.proofs.evaluate.Goals as goal

pub value-requires : goal.value-requires
value-requires c = let a = c.args in evaluates (chosen a.field) a.p.depth a.p.k0 a.message.now a.point.now (sym c.judge.ensures ∙ ap outcome c.in_ok-judge.was)
