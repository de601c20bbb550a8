use mathlib.Core.Path.{ap, ◌∙◌}
use Rattle.algebra.specs.Words.{𝔽₁}
use Rattle.pairs.specs.Pair.{add_p, mul_p}
use Rattle.residue.specs.ResidueLaws.{is_low}
use Rattle.residue.specs.Residues.{K, elem, word, ◌⊠◌}
use Rattle.pair.specs.PairWordLaws.{stands_of}
use Rattle.pair.proofs.Parts.{difference_word, sum_word, add_first}
use borrow.Author.Rules.{rules}
use Rattle.pair.proofs.Pair.plus_product.Goals as goal

pub minus-requires : goal.minus-requires
minus-requires c = (is_low 𝔽₁ _ c.plus_product.ensures, is_low 𝔽₁ _ c.times-im_im.ensures)

pub plus_product-requires-2 : goal.plus_product-requires-2
plus_product-requires-2 c = (is_low 𝔽₁ _ c.plus_product-cross.ensures, search rules, search rules)

pub returns : goal.returns
unfolding add_p mul_p
returns c =
    let a = c.args in
    let x = a.a in
    let y = a.b in
    stands_of 𝔽₁
    (difference_word 𝔽₁ _ _ c.plus_product.ensures c.times-im_im.ensures c.minus.ensures
    ∙ ap word (add_first 𝔽₁ (elem a.self.re) (elem x.re ⊠ elem y.re) (elem x.im ⊠ elem y.im)))
    (sum_word 𝔽₁ _ _ c.plus_product-cross.ensures c.plus_product-2.ensures
    ∙ ap word (K.add_assoc (elem a.self.im) (elem x.re ⊠ elem y.im) (elem x.im ⊠ elem y.re)))
