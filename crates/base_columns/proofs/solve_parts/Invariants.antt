use mathlib.Core.Path.{◌≡◌}
use Prim.Native.Nat.{◌/◌}
use lib.ListN.{length}
use Rattle.algebra.specs.Filling.{Filled}
use Rattle.residue.specs.Chosen.{chosen}
use Rattle.base_columns.specs.Steps.{solved_blocks}
use Rattle.base_columns.proofs.Reaching.{Reached}
use Rattle.base_columns.proofs.solve_parts.Given as goal

abbrev pub invariant-loop-start : goal.invariant-loop-start
invariant-loop-start l = Reached l.k l.k (length l.initial.out / l.k) l.start l.start × (length l.out ≡ length l.initial.out) × Filled l.start (solved_blocks (chosen l.field) l.k l.m l.initial.out) l.initial.out l.out
