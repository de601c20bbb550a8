use mathlib.Core.Path.{ap, ◌∙◌}
use Rattle.residue.specs.Elements.{inverse_of}
use Rattle.residue.specs.ResidueLaws.{is_low}
use Rattle.residue.specs.Chosen.{chosen}
use Rattle.base_matrix.specs.Steps.{scaled_words}
use Rattle.base_matrix.proofs.adjugate.divide.Goals as goal

pub scale-requires : goal.scale-requires
scale-requires c = (is_low (chosen c.args.field) _ c.unit_inverse-q.ensures, c.requires.2)

pub returns : goal.returns
returns c =
    let a = c.args in
    let 𝓕 = chosen a.field in
    c.scale.ensures ∙ ap (λ q. scaled_words 𝓕 q a.m.now) (c.unit_inverse-q.ensures ∙ ap (inverse_of 𝓕) c.new.ensures)
