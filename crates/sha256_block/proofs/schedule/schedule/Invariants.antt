use mathlib.Core.Path.{◌≡◌}
use Prim.Native.Nat.{◌≤◌}
use lib.ListN.{length, replicate}
use Rattle.algebra.specs.Lists.{row}
use Rattle.algebra.specs.Filling.{Filled}
use Rattle.sha256_block.specs.Compression.{W}
use Rattle.sha256_block.proofs.schedule.schedule.Given as goal

abbrev pub invariant-loop-t : goal.invariant-loop-t
invariant-loop-t l = (16 ≤ l.t) × (length l.w ≡ 64) × Filled l.t (row 64 (W l.b)) (replicate 64 0) l.w
