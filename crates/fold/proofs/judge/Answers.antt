use mathlib.Core.Path.{sym, ap, ◌∙◌}
use native.Mathlib.Omega.{arith}
use Rattle.job.specs.Outcome.{outcome}
use Rattle.job.specs.OutcomeLaws.{held}
use Rattle.residue.specs.Chosen.{chosen}
use Rattle.fold.proofs.Judged.{short, places_due}
use Rattle.fold.proofs.judge.Goals as goal

pub judge_places-requires : goal.judge_places-requires
judge_places-requires c =
    let a = c.args in
    short a.p.depth a.p.rate a.p.k0 a.t.now a.t2.now a.block.now a.challenge a.out (sym c.lengths_ok-lengths.ensures ∙ held _ 3 (sym c.require.ensures ∙ ap outcome c.in_ok-require.was))

pub returns : goal.returns
returns c =
    let a = c.args in
    places_due (chosen a.field) a.p.depth a.p.rate a.p.k0 a.t.now a.t2.now a.block.now a.challenge a.out c.lengths_ok-lengths.result c.scan_diagonals-diagonals.result.below
    (sym c.lengths_ok-lengths.ensures ∙ held _ 3 (sym c.require.ensures ∙ ap outcome c.in_ok-require.was)) c.scan_diagonals-diagonals.ensures.0 c.scan_diagonals-diagonals.ensures.1 (grind arith) c.judge_places.ensures
