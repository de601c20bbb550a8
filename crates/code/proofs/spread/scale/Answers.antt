use mathlib.Core.Path.{sym, ◌∙◌}
use native.Mathlib.Omega.{arith}
use Rattle.algebra.specs.Filling.{filled_none, filled_turn, filled_end, filled_length}
use Rattle.residue.specs.Chosen.{chosen}
use Rattle.code.specs.SpreadLaws.{length_scaled, scaled_at}
use Rattle.code.proofs.spread.scale.Goals as goal

pub loop-i-init : goal.loop-i-init
loop-i-init c = (omega arith, omega arith, filled_none _ _)

pub scaled-requires : goal.scaled-requires
scaled-requires c = (omega arith, c.requires.1.low _ (omega arith))

pub loop-i-preserved : goal.loop-i-preserved
loop-i-preserved c =
    let l = c.loop-i in
    let a = c.args in
    let 𝓕 = chosen a.field in
    let n = length_scaled 𝓕 a.a.0 a.g.now in
    let p = filled_turn 0 (omega arith) (omega arith) l.invariant.2 (c.scaled.ensures ∙ sym (scaled_at 𝓕 a.a.0 a.g.now l.i)) in
    (omega arith, omega (arith, filled_length p), p)

pub returns : goal.returns
returns c = let l = c.loop-i in let a = c.args in filled_end (omega arith) (omega (arith, length_scaled (chosen a.field) a.a.0 a.g.now)) l.invariant.2
