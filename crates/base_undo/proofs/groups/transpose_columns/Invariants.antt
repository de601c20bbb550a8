use mathlib.Core.Path.{◌≡◌}
use mathlib.Core.List.{◌++◌}
use Prim.Native.Nat.{◌*◌, ◌≤◌}
use lib.ListN.{length, drop}
use Rattle.algebra.specs.Filling.{Filled}
use Rattle.base_undo.specs.Steps.{grouped, column_word}
use Rattle.base_undo.proofs.groups.transpose_columns.Given as goal

abbrev pub invariant-loop-j : goal.invariant-loop-j
invariant-loop-j l = (l.j ≤ l.q) × (length l.w ≡ length l.initial.w) × Filled (l.k * l.j) (grouped l.k l.q (column_word l.k l.q l.initial.w) ++ drop (l.k * l.q) l.initial.w) l.initial.w l.w
