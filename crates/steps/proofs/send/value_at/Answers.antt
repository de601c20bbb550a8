use Rattle.residue.specs.Chosen.{chosen}
use Rattle.residue.specs.ResidueLaws.{is_low}
use Rattle.steps.proofs.Sends.{product_word}
use Rattle.steps.proofs.send.value_at.Goals as goal

pub times-requires : goal.times-requires
times-requires c = let 𝓕 = chosen c.args.field in (is_low 𝓕 _ c.weigh.ensures, is_low 𝓕 _ c.plus_product.ensures)

pub returns : goal.returns
returns c = product_word (chosen c.args.field) _ _ c.weigh.ensures c.plus_product.ensures c.times.ensures
