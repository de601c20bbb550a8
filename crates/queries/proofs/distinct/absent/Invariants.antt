use mathlib.Core.Path.{◌≡◌}
use mathlib.Core.Bool.{not}
use lib.ListN.{take}
use Rattle.queries.specs.Distinct.{absent}
use Rattle.queries.proofs.distinct.absent.Given as goal

abbrev pub invariant-loop-w : goal.invariant-loop-w
invariant-loop-w l = not l.found ≡ absent l.x (take l.w-index l.s)
