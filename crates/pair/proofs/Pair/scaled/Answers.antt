use mathlib.Core.Path.{ap, ◌∙◌}
use Rattle.algebra.specs.Words.{𝔽₁}
use Rattle.pairs.specs.Pair.{mul_p}
use Rattle.residue.specs.Residues.{elem, word}
use Rattle.pair.specs.PairWordLaws.{stands_of}
use Rattle.pair.proofs.Parts.{real_re, real_im}
use Rattle.pair.proofs.Pair.scaled.Goals as goal

pub returns : goal.returns
unfolding mul_p
returns c =
    let a = c.args in
    stands_of 𝔽₁ (c.times.ensures ∙ ap word (real_re 𝔽₁ (elem a.a) (elem a.self.re) (elem a.self.im))) (c.times-2.ensures ∙ ap word (real_im 𝔽₁ (elem a.a) (elem a.self.re) (elem a.self.im)))
