use mathlib.Core.Path.{refl, sym, ap, ◌∙◌}
use native.Mathlib.Omega.{arith}
use Rattle.algebra.specs.Vector.{multiple_one}
use Rattle.algebra.specs.WordLists.{elements, to_words}
use Rattle.residue.specs.Elements.{K, word}
use Rattle.residue.specs.Chosen.{chosen}
use Rattle.code.proofs.Settling.{settle_none, settle_length, settle_asks, settle_turn, settle_end}
use Rattle.code.proofs.lift.settle.Goals as goal

pub loop-w-init : goal.loop-w-init
loop-w-init c =
    let a = c.args in
    let 𝓕 = chosen a.field in
    (refl, settle_none 𝓕 (K 𝓕).𝟙 a.out.now)

pub settled-requires : goal.settled-requires
settled-requires c =
    let l = c.loop-w in
    let a = c.args in
    let 𝓕 = chosen a.field in
    settle_asks 𝓕 (K 𝓕).𝟙 l.invariant.1 c.requires (omega arith)

pub loop-w-preserved : goal.loop-w-preserved
loop-w-preserved c =
    let l = c.loop-w in
    let a = c.args in
    let 𝓕 = chosen a.field in
    let p = settle_turn 𝓕 (K 𝓕).𝟙 l.invariant.1 (omega arith) (c.settled.ensures ∙ ap (word 𝓕) (sym ((K 𝓕).mul-one _))) in
    (settle_length 𝓕 (K 𝓕).𝟙 p, p)

pub returns : goal.returns
returns c =
    let l = c.loop-w in
    let a = c.args in
    let 𝓕 = chosen a.field in
    settle_end 𝓕 (K 𝓕).𝟙 l.invariant.1 (omega arith) ∙ ap (to_words 𝓕) (multiple_one (K 𝓕) (elements 𝓕 a.out.now))
