use mathlib.Core.Path.{◌∙◌}
use mathlib.Core.Bool.{true}
use Prim.Native.Nat.{◌%◌}
use native.Mathlib.Omega.{arith}
use Rattle.hash_parts.specs.Queries.{leaf_bytes, leaves}
use Rattle.hash_parts.proofs.Loops.{each_turn, each_end, turn_room}
use Rattle.hash_parts.proofs.leaf_words.write_words.Goals as goal

pub loop-u-preserved : goal.loop-u-preserved
loop-u-preserved c =
    let l = c.loop-u in
    let w = c.args.block.now in
    let s = c.args.slots.now in
    let us = s.queries.now in
    let h = c.loop-u-test.true in
    let m = turn_room us s.stride l.u-index h in (
      c.put_leaf.auto.out ∙ l.invariant.0,
      omega (arith, l.invariant),
      each_turn (λ u. true) (λ u. leaf_bytes (leaves w) w (u % leaves w)) s.stride us l.u-index l.at l.out h c.put_leaf.ensures l.invariant.2,
    )

pub returns : goal.returns
returns c =
    let l = c.loop-u in
    let w = c.args.block.now in
    let s = c.args.slots.now in
    each_end (λ u. true) (λ u. leaf_bytes (leaves w) w (u % leaves w)) s.stride s.queries.now l.u-index l.at l.out (omega arith) l.invariant.2
