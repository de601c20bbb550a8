use mathlib.Core.Path.{refl, ◌∙◌}
use Prim.Native.Nat.{◌+◌}
use native.Mathlib.Omega.{arith}
use Rattle.hash_parts.specs.Queries.{under, other}
use Rattle.hash_parts.proofs.Loops.{each_turn, each_end, turn_room}
use Rattle.hash_parts.proofs.siblings.write_siblings.Goals as goal

pub loop-u-init : goal.loop-u-init
loop-u-init c = (refl, omega arith, refl)

pub loop-u-preserved : goal.loop-u-preserved
loop-u-preserved c =
    let l = c.loop-u in
    let a = c.args in
    let s = a.slots.now in
    let us = s.queries.now in
    let h = c.loop-u-test.true in
    let m = turn_room us s.stride l.u-index h in (
      c.put_other.auto.out ∙ l.invariant.0,
      omega (arith, l.invariant),
      each_turn (under a.n (a.t + 1) a.j) (other a.n a.t a.left.now a.right.now) s.stride us l.u-index l.at l.out h c.put_other.ensures l.invariant.2,
    )

pub returns : goal.returns
returns c =
    let l = c.loop-u in
    let a = c.args in
    let s = a.slots.now in
    each_end (under a.n (a.t + 1) a.j) (other a.n a.t a.left.now a.right.now) s.stride s.queries.now l.u-index l.at l.out (omega arith) l.invariant.2
