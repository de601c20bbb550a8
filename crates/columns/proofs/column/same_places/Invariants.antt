use mathlib.Core.Path.{◌≡◌}
use Prim.Native.Nat.{◌+◌, ◌*◌, ◌≤◌}
use lib.Dec.{eqb}
use lib.ListN.{length, take}
use Rattle.algebra.specs.Tests.{all₂}
use Rattle.foldable.specs.Every.{every}
use Rattle.columns.proofs.column.same_places.Given as goal

abbrev pub invariant-loop-i : goal.invariant-loop-i
invariant-loop-i l = (l.i ≤ length l.w) × (l.p ≡ l.j + l.i * l.c) × (l.ok ≡ all₂ eqb (take l.i l.w) (take l.i (every 0 l.c l.j (length l.w) l.block)))
