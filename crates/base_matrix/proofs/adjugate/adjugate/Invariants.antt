use mathlib.Core.Path.{◌≡◌}
use Prim.Native.Nat.{◌≤◌}
use lib.ListN.{length, replicate}
use Rattle.algebra.specs.Lists.{row}
use Rattle.algebra.specs.Filling.{Filled}
use Rattle.residue.specs.Chosen.{chosen}
use Rattle.base_matrix.specs.Steps.{cell_at}
use Rattle.base_matrix.proofs.adjugate.adjugate.Given as goal

abbrev pub invariant-loop-p : goal.invariant-loop-p
invariant-loop-p l = (l.p ≤ 16) × (length l.m ≡ 16) × Filled l.p (row 16 (cell_at (chosen l.field) l.k l.n l.g)) (replicate 16 0) l.m
