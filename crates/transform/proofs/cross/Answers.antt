use native.Mathlib.Omega.{arith}
use Rattle.residue.specs.Chosen.{chosen}
use Rattle.transform.specs.Passes.{across}
use Rattle.transform.proofs.Crossing.{crossing_none, crossing_length, crossing_low, crossing_turn, crossing_end}
use Rattle.transform.proofs.cross.Goals as goal

pub loop-j-init : goal.loop-j-init
loop-j-init c =
    let a = c.args in
    let 𝓕 = chosen a.field in
    crossing_none 𝓕 (across 𝓕 a.way) a.half a.s.now c.requires.0 c.requires.1

pub bounds-s-j : goal.bounds-s-j
bounds-s-j c = omega (arith, crossing_length _ c.loop-j.invariant)

pub bounds-s-k : goal.bounds-s-k
bounds-s-k c = omega (arith, crossing_length _ c.loop-j.invariant)

pub step-y-requires : goal.step-y-requires
step-y-requires c = crossing_low _ c.loop-j.invariant (omega arith)

pub bounds-s-k-in-loop-j : goal.bounds-s-k-in-loop-j
bounds-s-k-in-loop-j c = omega (arith, crossing_length _ c.loop-j.invariant)

pub loop-j-preserved : goal.loop-j-preserved
loop-j-preserved c = crossing_turn _ c.loop-j.invariant (omega arith) c.step-y.ensures

pub shape_of-s : goal.shape_of-s
shape_of-s c = crossing_length _ c.loop-j.invariant

pub returns : goal.returns
returns c = crossing_end _ c.loop-j.invariant (omega arith)
