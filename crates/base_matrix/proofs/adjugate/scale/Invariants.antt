use mathlib.Core.Path.{◌≡◌}
use Prim.Native.Nat.{◌≤◌}
use lib.ListN.{length}
use Rattle.algebra.specs.Filling.{Filled}
use Rattle.residue.specs.Chosen.{chosen}
use Rattle.base_matrix.specs.Steps.{scaled_words}
use Rattle.base_matrix.proofs.adjugate.scale.Given as goal

abbrev pub invariant-loop-p : goal.invariant-loop-p
invariant-loop-p l = (l.p ≤ length l.initial.m) × (length l.m ≡ length l.initial.m) × Filled l.p (scaled_words (chosen l.field) l.q.0 l.initial.m) l.initial.m l.m
