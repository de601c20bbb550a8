use mathlib.Core.Path.{◌≡◌}
use Prim.Native.Nat.{◌*◌}
use lib.ListN.{length}
use Rattle.algebra.specs.Filling.{Filled}
use Rattle.residue.specs.Chosen.{chosen}
use Rattle.code.specs.SpreadLaws.{spreaded}
use Rattle.halves_step.proofs.right.spread_words.Given as goal

abbrev pub invariant-loop-i : goal.invariant-loop-i
invariant-loop-i l = (l.x ≡ l.i * length l.g) × Filled l.x (spreaded (chosen l.field) l.message l.g) l.initial.out l.out
