use mathlib.Core.Path.{◌≡◌, refl}
use native.Mathlib.Omega.{arith}
use lib.ListN.{length-set, replicate}
use Rattle.algebra.specs.Filling.{filled_none}
use Rattle.sha256_block.proofs.Turns.{first_turn}
use Rattle.sha256_block.proofs.schedule.loaded.Goals as goal

pub loop-t-init : goal.loop-t-init
loop-t-init c = (refl, filled_none _ (replicate 64 0))

pub loop-t-preserved : goal.loop-t-preserved
loop-t-preserved c =
    let l = c.loop-t in
    (simp length-set l.invariant.0, first_turn _ l.t l.invariant.1 (omega arith) c.word_at.ensures)

pub returns : goal.returns
returns c =
    let l = c.loop-t in
    let e : l.t ≡ 16 = omega arith in
    rw (← e) l.invariant.1
