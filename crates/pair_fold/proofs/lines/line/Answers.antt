use Rattle.algebra.specs.Words.{𝔽₁}
use Rattle.residue.specs.Residues.{elem}
use Rattle.pair.specs.PairWords.{pair_of}
use Rattle.pair_fold.proofs.Straight.{line_stands}
use Rattle.pair_fold.proofs.lines.line.Goals as goal

pub returns : goal.returns
returns c =
    let x = c.args in
    line_stands 𝔽₁ (pair_of 𝔽₁ x.a) (elem x.t) (elem x.s) (pair_of 𝔽₁ x.u) (pair_of 𝔽₁ x.v) c.minus.ensures c.scaled-slope.ensures c.real.ensures c.minus-2.ensures c.plus_product.ensures
