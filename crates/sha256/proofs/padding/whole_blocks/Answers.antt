use mathlib.Core.Path.{◌≡◌, ◌∙◌, ap}
use Prim.Native.Nat.{◌+◌, ◌*◌, ◌-◌, ◌/◌}
use native.Mathlib.Omega.{arith}
use lib.ListN.{length, take, drop, length-take, length-drop}
use Rattle.sha256.specs.Padding.{padded}
use Rattle.sha256.specs.Hash.{hashed}
use Rattle.sha256.proofs.Blocks.{hashed_turn, front_block}
use Rattle.sha256.proofs.padding.whole_blocks.Goals as goal

pub loop-i-init : goal.loop-i-init
unfolding hashed
loop-i-init c = c.initial-s.ensures

pub compress-s-requires : goal.compress-s-requires
compress-s-requires c = simp (length-take, length-drop) (omega arith)

pub loop-i-preserved : goal.loop-i-preserved
loop-i-preserved c =
    let l = c.loop-i in
    let m = c.args.m.now in
    let all : 64 * l.i + 64 - 64 * l.i ≡ 64 = omega arith in
    hashed_turn (padded m) _ l.i (ap (λ k. take k (drop (64 * l.i) m)) all ∙ front_block m l.i (omega arith)) l.invariant c.compress-s.ensures

pub returns : goal.returns
returns c =
    let l = c.loop-i in
    let e : l.i ≡ length c.args.m.now / 64 = omega arith in
    l.invariant ∙ ap (hashed _) e
