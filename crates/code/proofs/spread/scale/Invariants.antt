use mathlib.Core.Path.{◌≡◌}
use Prim.Native.Nat.{◌≤◌}
use lib.ListN.{length}
use Rattle.algebra.specs.Filling.{Filled}
use Rattle.algebra.specs.WordLists.{elements, to_words}
use Rattle.residue.specs.Elements.{elem}
use Rattle.residue.specs.Chosen.{chosen}
use Rattle.code.specs.Steps.{times}
use Rattle.code.proofs.spread.scale.Given as goal

abbrev pub invariant-loop-i : goal.invariant-loop-i
invariant-loop-i l = (l.i ≤ length l.g) × (length l.out ≡ length l.g) × Filled l.i (to_words (chosen l.field) (times (chosen l.field) (elem (chosen l.field) l.a) (elements (chosen l.field) l.g))) l.initial.out l.out
