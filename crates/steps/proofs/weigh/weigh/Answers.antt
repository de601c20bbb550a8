use mathlib.Core.Path.{ap, ◌∙◌}
use Rattle.residue.specs.Elements.{elem, word}
use Rattle.residue.specs.Chosen.{chosen}
use Rattle.residue.specs.ResidueLaws.{is_low, stands}
use Rattle.steps.proofs.weigh.weigh.Goals as goal

pub times-requires : goal.times-requires
times-requires c = (c.requires.0, is_low (chosen c.args.field) _ c.factor.ensures)

pub returns : goal.returns
returns c = let a = c.args in let 𝓕 = chosen a.field in c.times.ensures ∙ ap (λ x. word 𝓕 (𝓕.field.ring.◌*◌ (elem 𝓕 a.w) x)) (stands 𝓕 _ c.factor.ensures)
