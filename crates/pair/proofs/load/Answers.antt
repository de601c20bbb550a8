use Rattle.algebra.specs.Words.{𝔽₁}
use Rattle.pair.proofs.Parts.{loaded}
use Rattle.pair.proofs.load.Goals as goal

pub returns : goal.returns
returns c = loaded 𝔽₁ c.requires c.new.ensures c.new-2.ensures
