use mathlib.Core.Path.{◌≡◌}
use mathlib.Core.List.{map}
use Prim.Native.Nat.{◌≤◌}
use lib.ListN.{length, replicate}
use Rattle.algebra.specs.Filling.{Filled}
use Rattle.clearance.specs.Clearances.{clearance_by}
use Rattle.clearance.proofs.slices.to_clearances.Given as goal

abbrev pub invariant-loop-i : goal.invariant-loop-i
invariant-loop-i l =
    let n = length l.initial.s in
    (l.i ≤ n) × (length l.s ≡ n) × (length l.out ≡ n) × Filled l.i (map (clearance_by l.border l.p) l.initial.s) l.initial.out l.out × Filled l.i (replicate n 0) l.initial.s l.s
