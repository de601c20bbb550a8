use Prim.Native.Nat.{◌≤◌}
use Rattle.residue.specs.Chosen.{chosen}
use Rattle.polynomial.proofs.LowMonomials.{Extending}
use Rattle.polynomial.proofs.monomials.extend.Given as goal

abbrev pub invariant-loop-b : goal.invariant-loop-b
invariant-loop-b l = (l.b ≤ l.size) × Extending (chosen l.field) l.b l.size l.x l.initial.w l.w
