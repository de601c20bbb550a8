use Rattle.residue.specs.Elements.{elem}
use Rattle.residue.specs.Chosen.{chosen}
use Rattle.residue.specs.ResidueLaws.{is_low}
use Rattle.claims.proofs.SumChecks.{through_words}
use borrow.Author.Rules.{rules}
use Rattle.claims.proofs.sums.through.Goals as goal

pub minus-second-requires : goal.minus-second-requires
minus-second-requires c = let 𝓕 = chosen c.args.field in (is_low 𝓕 _ c.minus.ensures, is_low 𝓕 _ c.minus-first.ensures)

pub minus-requires-2 : goal.minus-requires-2
minus-requires-2 c = let h = (chosen c.args.field).above in search rules

pub halved-steps-requires : goal.halved-steps-requires
halved-steps-requires c = is_low (chosen c.args.field) _ c.minus-2.ensures

pub plus_product-slope-requires : goal.plus_product-slope-requires
plus_product-slope-requires c = let 𝓕 = chosen c.args.field in (is_low 𝓕 _ c.minus-first.ensures, is_low 𝓕 _ c.halved-steps.ensures, is_low 𝓕 _ c.minus-second.ensures)

pub plus_product-requires : goal.plus_product-requires
plus_product-requires c = (c.requires.0, c.requires.3, is_low (chosen c.args.field) _ c.plus_product-slope.ensures)

pub returns : goal.returns
returns c =
    let a = c.args in
    let 𝓕 = chosen a.field in
    through_words 𝓕 (elem 𝓕 a.a) (elem 𝓕 a.b) (elem 𝓕 a.c) (elem 𝓕 a.x)
    c.minus-first.ensures c.minus.ensures c.minus-second.ensures c.minus-2.ensures c.halved-steps.ensures c.plus_product-slope.ensures c.plus_product.ensures
