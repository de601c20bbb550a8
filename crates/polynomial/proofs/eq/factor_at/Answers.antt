use mathlib.Core.Path.{ap₂, ◌∙◌}
use Rattle.residue.specs.Elements.{el, word}
use Rattle.residue.specs.Chosen.{chosen}
use Rattle.polynomial.specs.Eq.{factor}
use Rattle.polynomial.proofs.eq.factor_at.Goals as goal

pub new-requires : goal.new-requires
new-requires c = c.requires.0.low _ c.requires.2

pub new-requires-2 : goal.new-requires-2
new-requires-2 c = c.requires.1.low _ c.requires.3

pub factor-requires : goal.factor-requires
factor-requires c = (rw c.new.ensures (c.requires.0.low _ c.requires.2), rw c.new-2.ensures (c.requires.1.low _ c.requires.3))

pub returns : goal.returns
returns c = let 𝓕 = chosen c.args.field in c.factor.ensures ∙ ap₂ (λ z x. word 𝓕 (factor 𝓕 (el 𝓕 z) (el 𝓕 x))) c.new.ensures c.new-2.ensures
