use native.Mathlib.Omega.{arith}
use Rattle.algebra.specs.Words.{𝔽₁}
use Rattle.residue.specs.Residues.{el}
use Rattle.pair.specs.PairWords.{pair_of}
use Rattle.pair_fold.specs.Steps.{pair_line}
use Rattle.pair.specs.PairWordLaws.{pair_lent, stands_at}
use Rattle.pair_fold.proofs.lines.line_at.Goals as goal

pub load-u-requires : goal.load-u-requires
load-u-requires c = let p = c.requires.1 in pair_lent 𝔽₁ p.block (omega (arith, p.within, p.whole))

pub load-v-requires : goal.load-v-requires
load-v-requires c = let p = c.requires.1 in pair_lent 𝔽₁ p.block (omega (arith, p.within, p.whole))

pub new-requires : goal.new-requires
new-requires c = c.requires.1.low.low c.args.j c.requires.1.within

pub line-requires : goal.line-requires
line-requires c =
    let p = c.requires.1 in (
      c.requires.0,
      rw c.new.ensures (p.low.low c.args.j p.within),
      rw c.new-2.ensures p.inverse,
      c.load-u.ensures.low,
      c.load-v.ensures.low,
    )

pub returns : goal.returns
returns c =
    let a = c.args.a in
    stands_at 𝔽₁
    (λ k. pair_line 𝔽₁ (pair_of 𝔽₁ a) (el (c.new.ensures k)) (el (c.new-2.ensures k)) (c.load-u.ensures.value k) (c.load-v.ensures.value k))
    c.line.ensures
