use mathlib.Core.Path.{◌≡◌}
use Prim.Native.Nat.{◌*◌, ◌≤◌}
use lib.ListN.{length}
use Rattle.algebra.specs.Filling.{Filled}
use Rattle.foldable.specs.Every.{every}
use Rattle.undo.proofs.column.gather.Given as goal

abbrev pub invariant-loop-i : goal.invariant-loop-i
invariant-loop-i l = (l.i ≤ length l.initial.out) × (length l.out ≡ length l.initial.out) × (l.p ≡ l.i * l.c) × Filled l.i (every 0 l.c 0 (length l.initial.out) l.block) l.initial.out l.out
