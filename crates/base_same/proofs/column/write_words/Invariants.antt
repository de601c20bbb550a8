use mathlib.Core.Path.{◌≡◌}
use Prim.Native.Nat.{◌*◌, ◌≤◌}
use lib.ListN.{take}
use lib.Seq.{paste}
use Rattle.residue.specs.Chosen.{chosen}
use Rattle.base_same.specs.Steps.{column_words}
use Rattle.base_same.proofs.column.write_words.Given as goal

abbrev pub invariant-loop-i : goal.invariant-loop-i
invariant-loop-i l = (l.i ≤ l.q) × (l.a ≡ l.k * l.i) × (l.w ≡ paste l.initial.w (l.k * l.q) (column_words (chosen l.field) l.k l.n l.q l.j l.g (take (l.k * l.q) l.initial.w)) l.i)
