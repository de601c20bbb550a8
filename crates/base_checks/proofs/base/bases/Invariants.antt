use mathlib.Core.Path.{◌≡◌}
use mathlib.Core.Bool.{true}
use Prim.Native.Nat.{ℕ, ◌≤◌, ◌<◌}
use Rattle.residue.specs.Chosen.{chosen}
use Rattle.base_checks.specs.Steps.{base_at}
use Rattle.base_checks.proofs.base.bases.Given as goal

abbrev pub invariant-loop-j : goal.invariant-loop-j
invariant-loop-j l = (l.j ≤ l.n) × ((i : ℕ) → i < l.j → (base_at (chosen l.field) l.n l.v l.g l.bottom i).1 ≡ true)
