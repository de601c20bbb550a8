use Prim.Native.Nat.{◌≤◌}
use Rattle.residue.specs.Chosen.{chosen}
use Rattle.polynomial.proofs.LowMonomials.{Grown}
use Rattle.polynomial.proofs.monomials.fill.Given as goal

abbrev pub invariant-loop-i : goal.invariant-loop-i
invariant-loop-i l = (l.i ≤ l.k) × Grown (chosen l.field) l.z l.i l.size l.w
