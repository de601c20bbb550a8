use Prim.Native.Nat.{◌≤◌}
use lib.ListN.{length}
use Rattle.residue.specs.Chosen.{chosen}
use Rattle.base_checks.proofs.Products.{Summed}
use Rattle.base_checks.proofs.base.word_at.Given as goal

abbrev pub invariant-loop-b : goal.invariant-loop-b
invariant-loop-b l = (l.b ≤ length l.v) × Summed (chosen l.field) l.b l.n l.v l.g l.j l.s
