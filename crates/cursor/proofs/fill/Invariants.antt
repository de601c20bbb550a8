use mathlib.Core.Path.{◌≡◌}
use Prim.Native.Nat.{◌≤◌}
use lib.ListN.{length}
use Rattle.algebra.specs.Filling.{Filled}
use Rattle.cursor.specs.Walk.{listed, after}
use Rattle.cursor.proofs.fill.Given as goal

abbrev pub invariant-loop-i : goal.invariant-loop-i
invariant-loop-i l = (l.i ≤ length l.initial.out) × (length l.out ≡ length l.initial.out) × (l.here ≡ after l.i l.bytes l.at) × Filled l.i (listed (length l.initial.out) l.bytes l.at) l.initial.out l.out
