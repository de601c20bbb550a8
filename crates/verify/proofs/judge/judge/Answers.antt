use mathlib.Core.Path.{sym}
use Rattle.residue.specs.Chosen.{chosen}
use Rattle.verify.proofs.Judged.{opened_within}
use Rattle.verify.proofs.judge.judge.Goals as goal

pub judge-requires : goal.judge-requires
judge-requires c =
    let a = c.args in
    opened_within (chosen a.field) a.p.depth a.p.rate a.p.k0 a.g.now a.t.now a.t2.now a.block.now a.z.now a.y a.r.now a.opening.now (sym c.in_ok-judge_opened.ensures)
