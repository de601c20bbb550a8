use mathlib.Core.Path.{◌≡◌}
use mathlib.Core.List.{◌++◌}
use Prim.Native.Nat.{◌+◌, ◌*◌, ◌≤◌}
use lib.ListN.{length, get_or, drop}
use Rattle.algebra.specs.Filling.{Filled}
use Rattle.algebra.specs.Lists.{row}
use Rattle.base_undo.proofs.groups.gather_strided.Given as goal

abbrev pub invariant-loop-b : goal.invariant-loop-b
invariant-loop-b l = (l.b ≤ l.k) × (length l.w ≡ length l.initial.w) × (l.p ≡ l.r + l.b * l.q) × Filled l.b (row l.k (λ bₓ. get_or l.initial.w (l.r + bₓ * l.q) 0) ++ drop l.k l.initial.w) l.initial.w l.w
