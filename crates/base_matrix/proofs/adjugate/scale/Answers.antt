use mathlib.Core.Path.{refl, sym, ap, ◌∙◌}
use native.Mathlib.Omega.{arith}
use Rattle.algebra.specs.Filling.{filled_none, filled_turn, filled_end, filled_length, filled_old}
use Rattle.residue.specs.Elements.{product}
use Rattle.residue.specs.Chosen.{chosen}
use Rattle.base_matrix.proofs.Products.{length_scaled, scaled_at}
use Rattle.base_matrix.proofs.adjugate.scale.Goals as goal

pub loop-p-init : goal.loop-p-init
loop-p-init c = (omega arith, refl, filled_none _ _)

pub scaled-requires : goal.scaled-requires
scaled-requires c =
    let l = c.loop-p in
    (c.requires.0, rw (filled_old l.invariant.2 l.p 0 (omega arith)) (c.requires.1.low l.p (omega arith)))

pub loop-p-preserved : goal.loop-p-preserved
loop-p-preserved c =
    let l = c.loop-p in
    let a = c.args in
    let 𝓕 = chosen a.field in
    let old = a.m.now in
    let n = length_scaled 𝓕 a.q.0 old in
    let p =
    filled_turn 0 (omega arith) n l.invariant.2
    (c.scaled.ensures ∙ ap (product 𝓕 a.q.0) (filled_old l.invariant.2 l.p 0 (omega arith)) ∙ sym (scaled_at 𝓕 a.q.0 old l.p)) in
    (omega arith, filled_length p, p)

pub returns : goal.returns
returns c =
    let l = c.loop-p in
    let a = c.args in
    filled_end (omega arith) (length_scaled (chosen a.field) a.q.0 a.m.now) l.invariant.2
