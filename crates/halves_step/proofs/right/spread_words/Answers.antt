use mathlib.Core.Path.{◌≡◌, sym, ap, ◌∙◌}
use Prim.Native.Nat.{◌*◌}
use native.Mathlib.Nat.{zero-mul}
use native.Mathlib.Omega.{arith}
use lib.ListN.{length, length-take, length-drop}
use Rattle.algebra.specs.Filling.{filled_none, filled_end}
use Rattle.algebra.specs.WordLists.{elements, to_words}
use Rattle.residue.specs.Elements.{el}
use Rattle.residue.specs.Chosen.{chosen}
use Rattle.code.specs.Steps.{times}
use Rattle.code.specs.SpreadLaws.{next_within}
use Rattle.halves_step.proofs.Spreading.{length_base, next_place, spread_turn}
use Rattle.halves_step.proofs.right.spread_words.Goals as goal

pub loop-i-init : goal.loop-i-init
loop-i-init c = (sym (zero-mul _), filled_none _ _)

pub overflow_add-e : goal.overflow_add-e
overflow_add-e c = let l = c.loop-i in let a = c.args in omega (arith, next_within a.message.now a.g.now l.i l.x (omega arith) l.invariant.0, c.requires.size)

pub offset_bounds-out-x : goal.offset_bounds-out-x
offset_bounds-out-x c = let l = c.loop-i in let a = c.args in omega (arith, next_within a.message.now a.g.now l.i l.x (omega arith) l.invariant.0, c.requires.size)

pub slice_bounds-scale-end : goal.slice_bounds-scale-end
slice_bounds-scale-end c = let l = c.loop-i in let a = c.args in omega (arith, next_within a.message.now a.g.now l.i l.x (omega arith) l.invariant.0, c.requires.size)

pub scale-requires : goal.scale-requires
scale-requires c =
    let l = c.loop-i in
    let a = c.args in
    let w = next_within a.message.now a.g.now l.i l.x (omega arith) l.invariant.0 in
    (rw c.new-a.ensures (c.requires.message.low _ (omega arith)), c.requires.row, simp (length-take, length-drop) (omega (arith, c.requires.size)))

pub loop-i-preserved : goal.loop-i-preserved
loop-i-preserved c =
    let l = c.loop-i in
    let a = c.args in
    let 𝓕 = chosen a.field in
    let made = c.scale.ensures ∙ ap (λ x. to_words 𝓕 (times 𝓕 (el 𝓕 x) (elements 𝓕 a.g.now))) c.new-a.ensures in
    let w = next_within a.message.now a.g.now l.i l.x (omega arith) l.invariant.0 in (
      next_place 𝓕 a.message.now a.g.now a.out.now c.requires l.i l.x l.invariant.0,
      spread_turn 𝓕 a.message.now a.g.now a.out.now c.requires l.i l.x l.out _ (omega arith) l.invariant.0 (omega (arith, c.requires.size)) l.invariant.1 made,
    )

pub returns : goal.returns
returns c =
    let l = c.loop-i in
    let a = c.args in
    let e : l.i ≡ length a.message.now = omega arith in
    filled_end (omega (arith, l.invariant.0, c.requires.size, ap (λ k. k * length a.g.now) e)) (length_base (chosen a.field) a.message.now a.g.now a.out.now c.requires) l.invariant.1
