use mathlib.Core.Path.{◌≡◌}
use Prim.Native.Nat.{◌*◌}
use lib.ListN.{get_or}
use Rattle.sha256_block.specs.Compression.{rounds}
use Rattle.sha256_block.proofs.rounds.rounds.Given as goal

abbrev pub invariant-loop-i : goal.invariant-loop-i
invariant-loop-i l = l.r ≡ rounds (λ j. get_or l.w j 0) l.initial.r (2 * l.i)
