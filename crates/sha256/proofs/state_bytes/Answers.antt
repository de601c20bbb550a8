use mathlib.Core.Path.{◌≡◌, refl, ◌∙◌}
use mathlib.Core.List.{flat_map}
use native.Mathlib.Omega.{arith}
use Rattle.sha256.specs.Padding.{all_bytes}
use Rattle.sha256.proofs.Places.{front_turn, front_end}
use Rattle.sha256.proofs.state_bytes.Goals as goal

pub loop-i-init : goal.loop-i-init
unfolding all_bytes flat_map
loop-i-init c = (refl, refl)

pub loop-i-preserved : goal.loop-i-preserved
loop-i-preserved c =
    let l = c.loop-i in
    (c.put_word.auto.out ∙ l.invariant.0, front_turn _ _ l.i (omega arith) l.invariant.1 c.put_word.ensures)

pub returns : goal.returns
returns c =
    let l = c.loop-i in
    let e : l.i ≡ 8 = omega arith in
    front_end _ _ l.i (omega arith) (omega arith) l.invariant.1
