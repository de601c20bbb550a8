use Rattle.residue.specs.Chosen.{chosen}
use Rattle.residue.specs.ResidueLaws.{is_low}
use Rattle.polynomial.proofs.Factors.{factor_word}
use borrow.Author.Rules.{rules}
use Rattle.polynomial.proofs.eq.factor.Goals as goal

pub minus-not_z-requires : goal.minus-not_z-requires
minus-not_z-requires c = let h = (chosen c.args.field).above in search rules

pub minus-not_x-requires : goal.minus-not_x-requires
minus-not_x-requires c = let h = (chosen c.args.field).above in search rules

pub plus_product-requires : goal.plus_product-requires
plus_product-requires c = let 𝓕 = chosen c.args.field in (is_low 𝓕 _ c.times-both.ensures, is_low 𝓕 _ c.minus-not_z.ensures, is_low 𝓕 _ c.minus-not_x.ensures)

pub returns : goal.returns
returns c = let a = c.args in factor_word (chosen a.field) a.z.0 a.x.0 c.times-both.ensures c.minus-not_z.ensures c.minus-not_x.ensures c.plus_product.ensures
