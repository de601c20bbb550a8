-- Which part p^d - (p-1)^d is of p^d: at most d in p. Assumes nothing.
use Rattle.std.specs.Prelude.{◌≡◌, ℕ, zero, suc, ◌+◌, ◌*◌, ◌-◌, ◌^◌, ◌≤◌}
use Rattle.std.proofs.Common.{mul-zero, suc-mul, mul_comm, mul-add, mul_left_comm, mul-le-mul_left, arith}
use Rattle.std.proofs.Math.Nat.{pow-zero, pow-succ'}

-- Bernoulli's inequality: (1 - 1/p)^d is at least 1 - d/p, here for p = q + 1
bernoulli : (q d : ℕ) → suc q * suc q ^ d ≤ suc q * q ^ d + d * suc q ^ d
bernoulli q zero = rw (pow-zero (suc q), pow-zero q) (omega arith)
bernoulli q (suc d) =
    let p = suc q in
    let x = p ^ d in
    let y = q ^ d in
    rw (pow-succ' p d, pow-succ' q d)
    (omega (
      arith,
      suc-mul q (p * x),
      mul-le-mul_left q (bernoulli q d),
      mul-add q (p * y) (d * x),
      mul_left_comm p q y,
      suc-mul d (p * x),
      mul_left_comm d p x,
      suc-mul q (d * x),
    ))

pub at_most_part : (n p d : ℕ) → n + (p - 1) ^ d ≤ p ^ d → n * p ≤ d * p ^ d
at_most_part n zero d h = omega (arith, mul-zero n)
at_most_part n (suc q) d h =
    let less : suc q - 1 ≡ q = omega arith in
    omega (arith, mul_comm n (suc q), bernoulli q d, mul-le-mul_left (suc q) (rw less at h), mul-add (suc q) n (q ^ d))
