use mathlib.Core.Path.{◌∙◌}
use mathlib.Core.List.{[], ◌∷◌}
use Rattle.steps.proofs.Sends.{three}
use Rattle.steps.proofs.send.write_three.Goals as goal

pub returns : goal.returns
returns c = three c.args.out.now _ _ _ c.requires ∙ (λ i. c.word.ensures i ∷ c.word-2.ensures i ∷ c.word-3.ensures i ∷ [])
