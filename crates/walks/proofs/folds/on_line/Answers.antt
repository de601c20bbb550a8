use mathlib.Core.Path.{◌∙◌}
use Rattle.residue.specs.Elements.{elem}
use Rattle.residue.specs.Chosen.{chosen}
use Rattle.residue.specs.ResidueLaws.{is_low}
use Rattle.walks.proofs.Folded.{line_words}
use Rattle.walks.proofs.folds.on_line.Goals as goal

pub times-rise-requires : goal.times-rise-requires
times-rise-requires c = let 𝓕 = chosen c.args.field in (is_low 𝓕 _ c.minus.ensures, is_low 𝓕 _ c.minus-2.ensures)

pub times-run-requires : goal.times-run-requires
times-run-requires c = let 𝓕 = chosen c.args.field in (is_low 𝓕 _ c.minus-3.ensures, is_low 𝓕 _ c.minus-4.ensures)

pub returns : goal.returns
returns c =
    let a = c.args in
    let 𝓕 = chosen a.field in
    c.same.ensures
    ∙ line_words 𝓕 (elem 𝓕 a.a) (elem 𝓕 a.t) (elem 𝓕 a.t2) (elem 𝓕 a.w0) (elem 𝓕 a.w1) (elem 𝓕 a.b) c.requires.apart
    c.minus.ensures c.minus-2.ensures c.times-rise.ensures c.minus-3.ensures c.minus-4.ensures c.times-run.ensures
