use Rattle.algebra.specs.Words.{𝔽₁}
use Rattle.pairs.specs.Pair.{mul_p}
use Rattle.residue.specs.ResidueLaws.{is_low}
use Rattle.pair.specs.PairWordLaws.{stands_of}
use Rattle.pair.proofs.Parts.{difference_word, sum_word}
use borrow.Author.Rules.{rules}
use Rattle.pair.proofs.Pair.times.Goals as goal

pub minus-requires : goal.minus-requires
minus-requires c = (is_low 𝔽₁ _ c.times.ensures, is_low 𝔽₁ _ c.times-imaginary.ensures)

pub plus_product-requires : goal.plus_product-requires
plus_product-requires c = (is_low 𝔽₁ _ c.times-2.ensures, search rules, search rules)

pub returns : goal.returns
unfolding mul_p
returns c = stands_of 𝔽₁ (difference_word 𝔽₁ _ _ c.times.ensures c.times-imaginary.ensures c.minus.ensures) (sum_word 𝔽₁ _ _ c.times-2.ensures c.plus_product.ensures)
