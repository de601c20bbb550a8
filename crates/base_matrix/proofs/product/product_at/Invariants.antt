use Prim.Native.Nat.{◌≤◌}
use lib.ListN.{length}
use Rattle.residue.specs.Chosen.{chosen}
use Rattle.base_matrix.proofs.Products.{Summed}
use Rattle.base_matrix.proofs.product.product_at.Given as goal

abbrev pub invariant-loop-i : goal.invariant-loop-i
invariant-loop-i l = (l.i ≤ length l.v) × Summed (chosen l.field) l.i l.v l.m l.j l.s
