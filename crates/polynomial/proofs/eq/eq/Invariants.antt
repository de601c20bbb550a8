use mathlib.Core.Path.{◌≡◌}
use Prim.Native.Nat.{◌≤◌}
use lib.ListN.{length}
use Rattle.residue.specs.Elements.{word}
use Rattle.residue.specs.Chosen.{chosen}
use Rattle.polynomial.proofs.Factors.{factors}
use Rattle.polynomial.proofs.eq.eq.Given as goal

abbrev pub invariant-loop-i : goal.invariant-loop-i
invariant-loop-i l = (l.i ≤ length l.z) × (l.e.0 ≡ word (chosen l.field) (factors (chosen l.field) l.z l.x l.i))
