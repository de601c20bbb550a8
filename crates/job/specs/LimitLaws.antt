-- What the limits say: legal sizes are within the largest ones. Assumes nothing.
use Rattle.std.specs.Prelude.{◌≡◌, true, ℕ, ◌*◌, ◌^◌, ◌≤◌, leb}
use Rattle.std.proofs.Common.{mul-le-mul, pow_mono, leb-true}
use Rattle.algebra.specs.Tests.{and_both}
use Rattle.job.specs.Limits.{max_depth, min_rate, max_rate, rate_ok, max_message, max_block}

pub rate_least : (c : ℕ) → rate_ok c ≡ true → min_rate ≤ c
unfolding rate_ok
rate_least c e = leb-true min_rate c (and_both (leb min_rate c) (leb c max_rate) e).0

pub rate_most : (c : ℕ) → rate_ok c ≡ true → c ≤ max_rate
unfolding rate_ok
rate_most c e = leb-true c max_rate (and_both (leb min_rate c) (leb c max_rate) e).1

-- a power, and a rate times what is at most a power
pub power_most : (d : ℕ) → d ≤ max_depth → 2 ^ d ≤ max_message
power_most d h = pow_mono h

pub product_most : (c n : ℕ) → c ≤ max_rate → n ≤ max_message → c * n ≤ max_block
product_most c n h k = mul-le-mul h k
