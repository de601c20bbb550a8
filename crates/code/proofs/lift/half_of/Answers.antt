use native.Mathlib.Omega.{arith}
use Rattle.code.proofs.Levels.{half_of}
use Rattle.code.proofs.lift.half_of.Goals as goal

pub overflow_sub-off : goal.overflow_sub-off
overflow_sub-off c = let a = c.args in (half_of a.depth a.c a.n (omega arith) (omega arith)).0

pub returns : goal.returns
returns c = let a = c.args in (half_of a.depth a.c a.n (omega arith) (omega arith)).1
