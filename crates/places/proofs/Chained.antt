-- A place that a search ends at, as an outcome. Assumes nothing.
use mathlib.Core.Path.{◌≡◌, refl, ap}
use mathlib.Core.Bool.{Bool, true, false}
use Prim.Native.Nat.{ℕ, ◌<◌, ◌≤◌}
use native.Mathlib.Omega.{arith}
use Rattle.job.specs.Outcome.{Numbers, refused, done, demand}

-- a test that fails at a place below n, and one that passes, by where a search for the place ends
module _ (b : Bool) (due : ℕ → Numbers) (at n k : ℕ) (e : k ≡ at) where
  pub ended : (b ≡ true → at ≡ n) → k < n → refused (due k) ≡ demand b (due at)
  ended h l = go b refl
    where
      go : (c : Bool) → b ≡ c → refused (due k) ≡ demand c (due at)
      go true q = absurd (omega (arith, l, e, h q))
      go false q = ap (λ i. refused (due i)) e

  pub passed_all : (b ≡ false → at < n) → n ≤ k → done tt ≡ demand b (due at)
  passed_all h l = go b refl
    where
      go : (c : Bool) → b ≡ c → done tt ≡ demand c (due at)
      go true q = refl
      go false q = absurd (omega (arith, l, e, h q))
