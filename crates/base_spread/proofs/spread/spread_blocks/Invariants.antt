use mathlib.Core.Path.{◌≡◌}
use Prim.Native.Nat.{◌*◌, ◌/◌}
use lib.ListN.{length}
use Rattle.algebra.specs.Filling.{Filled}
use Rattle.residue.specs.Elements.{elem}
use Rattle.residue.specs.Chosen.{chosen}
use Rattle.base_spread.specs.Steps.{blocks_by}
use Rattle.base_spread.proofs.Spreading.{Reached}
use Rattle.base_spread.proofs.spread.spread_blocks.Given as goal

abbrev pub invariant-loop-i : goal.invariant-loop-i
invariant-loop-i l =
    Reached l.k l.n (length l.message / l.k) l.i l.b × (length l.out ≡ l.n * (length l.message / l.k)) × Filled l.b (blocks_by (chosen l.field) (elem (chosen l.field) l.f) l.k l.n l.g l.message) l.initial.out l.out
