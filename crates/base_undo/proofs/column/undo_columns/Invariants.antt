use mathlib.Core.Path.{◌≡◌}
use Prim.Native.Nat.{◌+◌, ◌*◌, ◌-◌, ◌≤◌}
use lib.ListN.{length}
use Rattle.residue.specs.Chosen.{chosen}
use Rattle.base_undo.proofs.Columns.{UndoneTo, WaitingFrom}
use Rattle.base_undo.proofs.column.undo_columns.Given as goal

abbrev pub invariant-loop-b : goal.invariant-loop-b
invariant-loop-b l = (l.b ≤ l.k) × (length l.work ≡ length l.initial.work) × (l.s ≡ (l.k - 1) * l.q + l.b * l.q) × UndoneTo (chosen l.field) l.depth l.k l.n l.t l.t2 l.block l.b l.work × WaitingFrom (chosen l.field) l.k l.n l.q l.t l.t2 l.b l.work
