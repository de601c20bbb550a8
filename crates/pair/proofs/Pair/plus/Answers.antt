use Rattle.algebra.specs.Words.{𝔽₁}
use Rattle.pairs.specs.Pair.{add_p}
use Rattle.pair.specs.PairWordLaws.{stands_of}
use Rattle.pair.proofs.Pair.plus.Goals as goal

pub returns : goal.returns
unfolding add_p
returns c = stands_of 𝔽₁ c.plus.ensures c.plus-2.ensures
