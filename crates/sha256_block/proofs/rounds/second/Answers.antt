use mathlib.Core.Path.{◌∙◌, ap₂}
use Rattle.sha256_words.specs.Words.{◌⊞◌}
use Rattle.sha256_block.specs.Compression.{T₂}
use Rattle.sha256_block.proofs.rounds.second.Goals as goal

pub returns : goal.returns
unfolding T₂
returns c = c.plus.ensures ∙ ap₂ ◌⊞◌ c.big_sigma0.ensures c.maj.ensures
