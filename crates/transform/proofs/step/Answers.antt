use mathlib.Core.Path.{sym, ap, ◌∙◌}
use Rattle.residue.specs.Elements.{word, el}
use Rattle.residue.specs.Chosen.{chosen}
use Rattle.transform.specs.Passes.{across}
use Rattle.transform.proofs.step.Goals as goal

pub returns-in-ToCoefficients : goal.returns-in-ToCoefficients
returns-in-ToCoefficients c =
    let x = c.args in
    let 𝓕 = chosen x.field in
    c.minus.ensures ∙ ap (λ w. word 𝓕 (across 𝓕 w (el 𝓕 x.x) (el 𝓕 x.y))) (sym c.in-ToCoefficients.is)

pub returns-in-ToTable : goal.returns-in-ToTable
returns-in-ToTable c =
    let x = c.args in
    let 𝓕 = chosen x.field in
    c.plus.ensures ∙ ap (λ w. word 𝓕 (across 𝓕 w (el 𝓕 x.x) (el 𝓕 x.y))) (sym c.in-ToTable.is)
