use mathlib.Core.Path.{sym}
use Rattle.cofactor.proofs.Minors.{skip_below, skip_above}
use Rattle.cofactor.proofs.skip.Goals as goal

pub returns-then-r-i : goal.returns-then-r-i
returns-then-r-i c = sym (skip_below _ _ c.if-r-i.true)

pub returns-else-r-i : goal.returns-else-r-i
returns-else-r-i c = sym (skip_above _ _ c.if-r-i.false)
