-- A loop that has passed the first i of n places, and goes on to look for the first that fails. Assumes nothing.
use mathlib.Core.Path.{◌≡◌, sym, ◌∙◌}
use mathlib.Core.Bool.{Bool, true, false}
use Prim.Native.Nat.{ℕ, ◌+◌, ◌<◌, ◌≤◌}
use native.Mathlib.Omega.{arith}
use borrow.Author.Count.{below_none, below_more}
use Rattle.places.specs.Places.{AllPass, first_place}
use Rattle.places.specs.PlaceLaws.{first_only, first_none}

pub record Passed (passes : ℕ → Bool) (n i : ℕ) : Type 0 where
  pub within : i ≤ n
  pub each : AllPass passes i

module _ {passes : ℕ → Bool} {n : ℕ} where
  -- before the loop
  pub passed_none : Passed passes n 0
  passed_none = record { within = omega arith; each = below_none (λ j. passes j ≡ true) }

  -- after a turn
  pub passed_turn : {i : ℕ} → Passed passes n i → i < n → passes i ≡ true → Passed passes n (i + 1)
  passed_turn {i} p l e = record { within = omega arith; each = below_more (λ j. passes j ≡ true) i p.each e }

  -- where it stops
  pub passed_stop : {i : ℕ} → Passed passes n i → i < n → passes i ≡ false → i ≡ first_place passes n
  passed_stop p l e = first_only (record { within = l; before = p.each; failing = e })

  -- at its end
  pub passed_end : {i : ℕ} → Passed passes n i → n ≤ i → i ≡ first_place passes n
  passed_end {i} p l = let w = p.within in let e : i ≡ n = omega arith in e ∙ sym (first_none.1 (rw e at p.each))
