use mathlib.Core.Path.{◌≡◌}
use Prim.Native.Nat.{◌≤◌}
use lib.ListN.{length, take}
use Rattle.algebra.specs.Tests.{all_same}
use Rattle.base_halves_step.proofs.base.same_words.Given as goal

abbrev pub invariant-loop-i : goal.invariant-loop-i
invariant-loop-i l = (l.i ≤ length l.a) × (l.ok ≡ all_same (take l.i l.a) (take l.i l.b))
