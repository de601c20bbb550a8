use native.Mathlib.Omega.{arith}
use Rattle.residue.specs.Chosen.{chosen}
use Rattle.transform.specs.Passes.{across}
use Rattle.transform.proofs.Passing.{reached_none, reached_length, reached_asks, reached_fits, reached_turn, reached_end}
use Rattle.transform.proofs.transform.Goals as goal

pub loop-level-init : goal.loop-level-init
loop-level-init c =
    let a = c.args in
    let 𝓕 = chosen a.field in
    reached_none 𝓕 (across 𝓕 a.way) a.depth a.s.now c.requires.0 c.requires.1

pub sweep-requires : goal.sweep-requires
sweep-requires c = reached_asks _ c.loop-level.invariant c.loop-level-test.true

pub overflow_mul-half : goal.overflow_mul-half
overflow_mul-half c =
    record { fits = omega (arith, reached_fits _ c.loop-level.invariant c.loop-level-test.true, c.well_formed.1.1.0.0) }

pub loop-level-preserved : goal.loop-level-preserved
loop-level-preserved c = reached_turn _ c.loop-level.invariant c.loop-level-test.true c.sweep.ensures

pub shape_of-s : goal.shape_of-s
shape_of-s c = reached_length _ c.loop-level.invariant

pub returns : goal.returns
returns c = reached_end _ c.loop-level.invariant c.loop-level-test.false
