use mathlib.Core.Path.{◌≡◌}
use mathlib.Core.List.{◌++◌}
use Prim.Native.Nat.{◌*◌}
use lib.ListN.{length, take, drop}
use Rattle.sha256.specs.Padding.{all_bytes}
use Rattle.sha256.proofs.state_bytes.Given as goal

abbrev pub invariant-loop-i : goal.invariant-loop-i
invariant-loop-i l = (length l.out ≡ 32) × (l.out ≡ all_bytes (take l.i l.w) ++ drop (4 * l.i) l.initial.out)
