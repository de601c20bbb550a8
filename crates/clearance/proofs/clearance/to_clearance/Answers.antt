use native.Mathlib.Omega.{arith}
use Rattle.clearance.proofs.Signs.{Overlapping, overlapping, not_overlapping}
use Rattle.clearance.proofs.clearance.to_clearance.Goals as goal
use Rattle.clearance.proofs.clearance.to_clearance.Goals.{Else-w-border}

over : (c : Else-w-border) → (Overlapping c.args.p c.requires.1 c.args.border c.args.w)
over c = overlapping _ c.requires.1 _ _ (omega arith) (omega arith)

pub overflow_sub-result-else-w-border : goal.overflow_sub-result-else-w-border
overflow_sub-result-else-w-border c = (over c).fits

pub returns-then-w-border : goal.returns-then-w-border
returns-then-w-border c = not_overlapping c.args.p c.requires.1 c.args.border c.args.w (omega arith) (omega arith)

pub returns-else-w-border : goal.returns-else-w-border
returns-else-w-border c = (over c).is
