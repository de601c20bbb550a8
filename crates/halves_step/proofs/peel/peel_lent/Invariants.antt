use mathlib.Core.Path.{◌≡◌}
use Prim.Native.Nat.{◌≤◌}
use lib.ListN.{length}
use Rattle.residue.specs.Chosen.{chosen}
use Rattle.halves_step.proofs.Peeling.{LentTo}
use Rattle.halves_step.proofs.peel.peel_lent.Given as goal

abbrev pub invariant-loop-i : goal.invariant-loop-i
invariant-loop-i l = (l.i ≤ l.n) × (length l.out ≡ length l.initial.out) × LentTo (chosen l.field) l.t l.t2 l.block l.initial.out l.i l.ok l.out
