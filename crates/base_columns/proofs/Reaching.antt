-- Two counters that a loop moves together, by k and by n, over q parts. Assumes nothing.
use mathlib.Core.Path.{◌≡◌, sym, ◌∙◌}
use mathlib.Core.Logic.{⊎_elim}
use Prim.Native.Nat.{ℕ, suc, ◌+◌, ◌*◌, ◌<◌, ◌≤◌}
use native.Mathlib.Nat.{mul-zero, mul-suc, mul-le-mul_left}
use native.Mathlib.Omega.{arith}
use Rattle.algebra.specs.Order.{lt_or_ge}

-- at the places i and b begins one of q turns, or all are done
pub record Reached (k n q i b : ℕ) : Type 0 where
  pub turn : ℕ
  pub most : turn ≤ q
  pub first : i ≡ k * turn
  pub second : b ≡ n * turn

pub reached_none : (k n q i b : ℕ) → i ≡ 0 → b ≡ 0 → Reached k n q i b
reached_none k n q i b e f = record { turn = 0; most = omega arith; first = e ∙ sym (mul-zero k); second = f ∙ sym (mul-zero n) }

module _ {k n q i b : ℕ} (𝓡 : Reached k n q i b) (h : i < k * q) where
  abbrev j : ℕ
  j = 𝓡.turn

  pub reached_less : j < q
  reached_less = ⊎_elim (λ l. l) (λ l. absurd (omega (arith, mul-le-mul_left {m = q} {n = j} k l, 𝓡.first))) (lt_or_ge j q)

  pub first_within : i + k ≤ k * q
  first_within = omega (arith, mul-le-mul_left {m = suc j} {n = q} k reached_less, mul-suc k j, 𝓡.first)

  pub reached_next : (i' b' : ℕ) → i' ≡ i + k → b' ≡ b + n → Reached k n q i' b'
  reached_next i' b' e f = record { turn = suc j; most = reached_less; first = omega (arith, mul-suc k j, 𝓡.first); second = omega (arith, mul-suc n j, 𝓡.second) }
