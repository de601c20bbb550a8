use native.Mathlib.Omega.{arith}
use Rattle.algebra.specs.Words.{𝔽₁}
use Rattle.pair.specs.PairWords.{pair_of}
use Rattle.pair.specs.PairWordLaws.{stands_at}
use Rattle.pair_fold.proofs.Drawing.{draw_none, draw_turn, draw_end, place_lent, line_kept}
use Rattle.pair_fold.proofs.lines.draw.Goals as goal

pub loop-j-init : goal.loop-j-init
loop-j-init c = draw_none 𝔽₁ _ _ _

pub line_at-p-requires : goal.line_at-p-requires
line_at-p-requires c = let l = c.loop-j in (c.requires.0, place_lent 𝔽₁ c.requires.1 _ (omega arith) l.invariant)

pub store-requires : goal.store-requires
store-requires c = let l = c.loop-j in omega (arith, l.invariant.size, l.invariant.within, c.requires.1.room)

pub loop-j-preserved : goal.loop-j-preserved
loop-j-preserved c =
    let l = c.loop-j in
    let p = stands_at 𝔽₁ (line_kept 𝔽₁ c.requires.1 _ (omega arith) l.invariant (pair_of 𝔽₁ c.args.challenge)) c.line_at-p.ensures in
    rw c.store.ensures (draw_turn 𝔽₁ _ (omega arith) c.requires.1.room l.invariant p)

pub returns : goal.returns
returns c = let l = c.loop-j in draw_end 𝔽₁ (λ h. omega arith) c.requires.1.room l.invariant
