use mathlib.Core.Path.{◌≡◌}
use Prim.Native.Nat.{◌+◌, ◌*◌, ◌≤◌}
use lib.ListN.{length}
use Rattle.residue.specs.Chosen.{chosen}
use Rattle.columns.proofs.Loops.{CrossedUpTo}
use Rattle.columns.proofs.column.cross.Given as goal

abbrev pub invariant-loop-i : goal.invariant-loop-i
invariant-loop-i l = (l.i ≤ l.n) × (length l.w ≡ length l.initial.w) × (l.p ≡ l.a + l.i * l.c) × CrossedUpTo (chosen l.field) l.n l.a l.c l.t l.t2 l.initial.w l.i l.w
