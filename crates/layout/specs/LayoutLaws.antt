-- Rounds and blocks lie within the opening, with any number of low variables. Assumes nothing.
use Rattle.std.specs.Prelude.{◌≡◌, ℕ, suc, ◌+◌, ◌*◌, ◌-◌, ◌^◌, ◌≤◌, ◌<◌}
use Rattle.std.proofs.Common.{sym, ap, ◌∙◌, mul-add, mul-le-mul_left, add_assoc, arith, pow_mono, pow_pos}
use Rattle.std.proofs.Math.Nat.{two-pow-succ}
use Rattle.basefold.specs.Layout.{round_at, final_at, block_at, opening_size}
use Rattle.job.specs.Limits.{block_size}

-- h_(i+1) ends before v
pub round_within : (d i : ℕ) → i < d → round_at d (suc i) + 3 ≤ final_at d
round_within d i h = omega arith

-- a block ends where the next one begins, and within the opening
pub block_end : (c low d i : ℕ) → i < d → block_at c low d i + block_size c i ≡ final_at d + 2 ^ low + c * (2 ^ d - 2 ^ i)
block_end c low d i h =
    let q : (2 ^ d - 2 ^ suc i) + 2 ^ i ≡ 2 ^ d - 2 ^ i = omega (arith, two-pow-succ i, pow_mono h) in
    add_assoc (final_at d + 2 ^ low) (c * (2 ^ d - 2 ^ suc i)) (c * 2 ^ i) ∙ ap (λ n. final_at d + 2 ^ low + n) (sym (mul-add c (2 ^ d - 2 ^ suc i) (2 ^ i)) ∙ ap (λ n. c * n) q)

pub block_within : (c low d i : ℕ) → i < d → block_at c low d i + block_size c i ≤ opening_size c low d
block_within c low d i h =
    let q : 2 ^ d - 2 ^ i ≤ 2 ^ d - 1 = omega (arith, pow_pos i) in
    omega (arith, block_end c low d i h, mul-le-mul_left c q)

-- where a block begins, as it is computed
pub power_below : (i d : ℕ) {m n : ℕ} → i < d → m ≡ 2 ^ d → n ≡ 2 ^ (i + 1) → n ≤ m
power_below i d h p q = let e : 2 ^ (i + 1) ≤ 2 ^ d = pow_mono (omega arith) in omega arith
