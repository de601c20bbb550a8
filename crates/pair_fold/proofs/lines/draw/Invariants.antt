use lib.ListN.{length}
use Rattle.algebra.specs.Words.{𝔽₁}
use Rattle.pair.specs.PairWords.{pair_of}
use Rattle.pair_fold.specs.Steps.{pair_lines}
use Rattle.pair_fold.proofs.Drawing.{DrawnFrom}
use Rattle.pair_fold.proofs.lines.draw.Given as goal

abbrev pub invariant-loop-j : goal.invariant-loop-j
invariant-loop-j l = DrawnFrom 𝔽₁ l.j (length l.t) (pair_lines 𝔽₁ (length l.t) (pair_of 𝔽₁ l.challenge) l.t l.block l.initial.out) l.initial.out l.out
