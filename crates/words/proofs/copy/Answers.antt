use mathlib.Core.Path.{refl}
use native.Mathlib.Omega.{arith}
use Rattle.algebra.specs.Filling.{filled_none, filled_turn, filled_end}
use Rattle.words.proofs.copy.Goals as goal

pub loop-i-init : goal.loop-i-init
loop-i-init c = filled_none _ _

pub loop-i-preserved : goal.loop-i-preserved
loop-i-preserved c = filled_turn 0 (omega arith) (omega arith) c.loop-i.invariant refl

pub returns : goal.returns
returns c = filled_end (omega arith) (omega arith) c.loop-i.invariant
