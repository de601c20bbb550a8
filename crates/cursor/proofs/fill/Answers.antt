use mathlib.Core.Path.{refl}
use native.Mathlib.Omega.{arith}
use lib.ListN.{length}
use Rattle.algebra.specs.Filling.{filled_none, filled_turn, filled_end, filled_length}
use Rattle.cursor.specs.Walk.{listed}
use Rattle.cursor.specs.Laws.{length_listed}
use Rattle.cursor.proofs.Turns.{after_none, value_turn, after_turn, after_end}
use Rattle.cursor.proofs.fill.Goals as goal

pub loop-i-init : goal.loop-i-init
loop-i-init c =
    let a = c.args in
    (omega arith, refl, after_none a.bytes.now a.at, filled_none (listed (length a.out.now) a.bytes.now a.at) a.out.now)

pub loop-i-smaller : goal.loop-i-smaller
loop-i-smaller c = let l = c.loop-i.invariant.1 in omega arith

pub loop-i-preserved : goal.loop-i-preserved
loop-i-preserved c =
    let a = c.args in
    let l = c.loop-i in
    let long = l.invariant.1 in
    let here = l.invariant.2 in
    let 𝓕 = filled_turn 0 (omega arith) (length_listed _ _ _) l.invariant.3 (value_turn a.bytes.now a.at l.i here c.entry_at-e.ensures (length a.out.now) (omega arith)) in
    (omega arith, filled_length 𝓕, after_turn a.bytes.now a.at l.i here c.entry_at-e.ensures, 𝓕)

pub shape_of-out : goal.shape_of-out
shape_of-out c = c.loop-i.invariant.1

pub returns : goal.returns
returns c =
    let a = c.args in
    let l = c.loop-i in
    let long = l.invariant.1 in
    (after_end a.bytes.now a.at (omega arith) l.invariant.2, filled_end (omega arith) (length_listed _ _ _) l.invariant.3)
