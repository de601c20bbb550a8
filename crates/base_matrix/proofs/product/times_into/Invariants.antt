use mathlib.Core.Path.{◌≡◌}
use Prim.Native.Nat.{◌≤◌}
use lib.ListN.{length}
use Rattle.algebra.specs.Lists.{row}
use Rattle.algebra.specs.Filling.{Filled}
use Rattle.residue.specs.Elements.{word}
use Rattle.residue.specs.Chosen.{chosen}
use Rattle.base_matrix.specs.Steps.{product_at}
use Rattle.base_matrix.proofs.product.times_into.Given as goal

abbrev pub invariant-loop-j : goal.invariant-loop-j
invariant-loop-j l = (l.j ≤ length l.v) × (length l.out ≡ length l.v) × Filled l.j (row (length l.v) (λ jₓ. word (chosen l.field) (product_at (chosen l.field) l.v l.m jₓ))) l.initial.out l.out
