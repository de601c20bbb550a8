use mathlib.Core.Path.{◌≡◌}
use Prim.Native.Nat.{◌*◌, ◌≤◌}
use lib.ListN.{length}
use Rattle.residue.specs.Chosen.{chosen}
use Rattle.undo.proofs.Uncrossing.{UncrossedTo}
use Rattle.undo.proofs.levels.uncross.Given as goal

abbrev pub invariant-loop-i : goal.invariant-loop-i
invariant-loop-i l = (l.i ≤ l.n) × (length l.w ≡ length l.initial.w) × (l.p ≡ l.i * l.c) × UncrossedTo (chosen l.field) l.n l.a l.c l.t l.initial.w l.i l.w
