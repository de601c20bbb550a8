use mathlib.Core.Path.{◌≡◌}
use Prim.Native.Nat.{ℕ, ◌-◌}
use Rattle.job.specs.Outcome.{Numbers}
use Rattle.cursor.specs.Walk.{under, walk}
use Rattle.cursor.proofs.skim.Given as goal

abbrev pub invariant-loop-k : goal.invariant-loop-k
invariant-loop-k l = (fault : ℕ → Numbers) → walk (under l.limit fault) 0 l.n l.bytes l.at ≡ walk (under l.limit fault) l.k (l.n - l.k) l.bytes l.here
