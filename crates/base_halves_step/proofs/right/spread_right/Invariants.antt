use mathlib.Core.Path.{◌≡◌}
use Prim.Native.Nat.{◌+◌, ◌*◌, ◌≤◌}
use Rattle.residue.specs.Chosen.{chosen}
use Rattle.base_halves_step.proofs.Spreading.{SpreadTo}
use Rattle.base_halves_step.proofs.right.spread_right.Given as goal

abbrev pub invariant-loop-j : goal.invariant-loop-j
invariant-loop-j l = (l.j ≤ l.q) × (l.i ≡ l.k * l.q + l.k * l.j) × (l.x ≡ l.b + l.n * l.j) × SpreadTo (chosen l.field) l.k l.n l.q l.b l.g l.initial.work l.j l.work
