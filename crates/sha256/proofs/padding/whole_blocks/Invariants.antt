use mathlib.Core.Path.{◌≡◌}
use Rattle.sha256.specs.Padding.{padded}
use Rattle.sha256.specs.Hash.{hashed}
use Rattle.sha256.proofs.padding.whole_blocks.Given as goal

abbrev pub invariant-loop-i : goal.invariant-loop-i
invariant-loop-i l = l.s ≡ hashed (padded l.m) l.i
