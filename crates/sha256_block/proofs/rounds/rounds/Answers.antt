use mathlib.Core.Path.{◌≡◌, refl, ◌∙◌, ap}
use Prim.Native.Nat.{◌+◌, ◌*◌}
use native.Mathlib.Omega.{arith}
use Rattle.sha256_block.specs.Constants.{K}
use Rattle.sha256_block.specs.Compression.{rounds}
use Rattle.sha256_block.specs.CompressionLaws.{rounds_turn}
use Rattle.sha256_block.proofs.rounds.rounds.Goals as goal

pub loop-i-init : goal.loop-i-init
unfolding rounds
loop-i-init c = refl

pub loop-i-preserved : goal.loop-i-preserved
unfolding K
loop-i-preserved c =
    let t = 2 * c.loop-i.i in
    let two : t + 1 + 1 ≡ 2 * (c.loop-i.i + 1) = omega arith in
    rounds_turn _ _ (t + 1) (rounds_turn _ _ t c.loop-i.invariant c.round-r.ensures) c.round-r-in-loop-i.ensures ∙ ap (rounds _ _) two

pub returns : goal.returns
returns c = let l = c.loop-i in let e : 2 * l.i ≡ 64 = omega arith in l.invariant ∙ ap (rounds _ _) e
