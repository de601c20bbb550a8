use mathlib.Core.Path.{◌≡◌}
use Prim.Native.Nat.{◌*◌, ◌≤◌}
use lib.ListN.{take, get_or}
use lib.Seq.{paste}
use Rattle.residue.specs.Chosen.{chosen}
use Rattle.base_same.specs.Steps.{column_words}
use Rattle.base_same.proofs.column.write_scaled.Given as goal

abbrev pub invariant-loop-i : goal.invariant-loop-i
invariant-loop-i l = (l.i ≤ l.q) × (l.x ≡ get_or l.code.g.now l.j 0) × (l.w ≡ paste l.initial.w (1 * l.q) (column_words (chosen l.field) 1 l.code.n l.q l.j l.code.g.now (take (1 * l.q) l.initial.w)) l.i)
