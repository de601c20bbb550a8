use mathlib.Core.Path.{◌≡◌}
use lib.ListN.{take}
use Rattle.algebra.specs.Tests.{all}
use Rattle.clearance.specs.Clearances.{between}
use Rattle.clearance.proofs.slices.all_in_range.Given as goal

abbrev pub invariant-loop-x : goal.invariant-loop-x
invariant-loop-x l = l.ok ≡ all (between l.min l.max) (take l.x-index l.s)
