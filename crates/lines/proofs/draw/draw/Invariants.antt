use Rattle.lines.specs.Steps.{lines_by}
use Rattle.residue.specs.Elements.{elem}
use Rattle.residue.specs.Chosen.{chosen}
use Prim.Native.Nat.{◌≤◌}
use lib.ListN.{length}
use mathlib.Core.Path.{◌≡◌}
use Rattle.algebra.specs.WordLists.{to_words}
use Rattle.algebra.specs.Filling.{Filled}
use Rattle.algebra.specs.Lists.{row}
use Rattle.lines.proofs.draw.draw.Given as goal

abbrev pub invariant-loop-j : goal.invariant-loop-j
invariant-loop-j l = (l.j ≤ length l.initial.out) × (length l.out ≡ length l.initial.out) × Filled l.j (to_words (chosen l.field) (row (length l.initial.out) (lines_by l.field (length l.initial.out) (elem (chosen l.field) l.challenge) l.t l.block l.initial.out))) l.initial.out l.out
