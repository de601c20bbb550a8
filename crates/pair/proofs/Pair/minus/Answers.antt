use Rattle.algebra.specs.Words.{𝔽₁}
use Rattle.pairs.specs.Pair.{sub_p}
use Rattle.pair.specs.PairWordLaws.{stands_of}
use Rattle.pair.proofs.Pair.minus.Goals as goal

pub returns : goal.returns
unfolding sub_p
returns c = stands_of 𝔽₁ c.minus.ensures c.minus-2.ensures
