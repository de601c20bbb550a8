-- The reversed number bit by bit, and of even and odd numbers. Assumes nothing.
use Rattle.std.specs.Prelude.{◌≡◌, ℕ, zero, suc, ◌+◌, ◌*◌, ◌-◌, ◌/◌, ◌%◌, ◌^◌, ◌≤◌, ◌<◌}
use Rattle.std.proofs.Common.{sym, ap, ◌∙◌, ⊎_elim, zero-mul, one-mul, arith}
use Rattle.std.proofs.Math.Nat.{two-pow-succ}
use Rattle.algebra.specs.Order.{lt_or_ge}
use Rattle.algebra.specs.Bits.{bit, bit_low, bit_up, bit_clear, bit_set, bit_same}
use Rattle.roots.specs.RootCode.{reverse_bits}

-- a number below 2^d, and a bit above it
top : (d b r : ℕ) → b < 2 → r < 2 ^ d → b * 2 ^ d + r < 2 ^ suc d
top d zero r h l = omega (arith, zero-mul (2 ^ d), two-pow-succ d)
top d (suc zero) r h l = omega (arith, one-mul (2 ^ d), two-pow-succ d)
top d (suc (suc b)) r h l = absurd (omega arith)

pub reverse_below : (d k : ℕ) → reverse_bits d k < 2 ^ d
unfolding reverse_bits
reverse_below zero k = omega arith
reverse_below (suc d) k = top d (k % 2) (reverse_bits d (k / 2)) (omega arith) (reverse_below d (k / 2))

pub reverse_even : (d j : ℕ) → reverse_bits (suc d) (2 * j) ≡ reverse_bits d j
unfolding reverse_bits
reverse_even d j =
    let p : 2 * j % 2 ≡ 0 = omega arith in
    let q : 2 * j / 2 ≡ j = omega arith in
    rw (p, q) (omega (arith, zero-mul (2 ^ d)))

pub reverse_odd : (d j : ℕ) → reverse_bits (suc d) (1 + 2 * j) ≡ 2 ^ d + reverse_bits d j
unfolding reverse_bits
reverse_odd d j =
    let p : (1 + 2 * j) % 2 ≡ 1 = omega arith in
    let q : (1 + 2 * j) / 2 ≡ j = omega arith in
    rw (p, q) (omega (arith, one-mul (2 ^ d)))

-- the bit above, and the bits below it
bit_top : (d b r : ℕ) → b < 2 → r < 2 ^ d → bit (b * 2 ^ d + r) d ≡ b
bit_top d zero r h l = rw (zero-mul (2 ^ d)) (ap (λ k. bit k d) (omega arith) ∙ bit_clear d r l)
bit_top d (suc zero) r h l = rw (one-mul (2 ^ d)) (bit_set d r l)
bit_top d (suc (suc b)) r h l = absurd (omega arith)

bit_below : (d b r j : ℕ) → b < 2 → j < d → bit (b * 2 ^ d + r) j ≡ bit r j
bit_below d zero r j h l = rw (zero-mul (2 ^ d)) (ap (λ k. bit k j) (omega arith))
bit_below d (suc zero) r j h l = rw (one-mul (2 ^ d)) (bit_same d r j l)
bit_below d (suc (suc b)) r j h l = absurd (omega arith)

-- bit j of the reversed number is bit d - 1 - j of the number
pub bit_reverse : (d k j : ℕ) → j < d → bit (reverse_bits d k) j ≡ bit k (d - 1 - j)
unfolding reverse_bits
bit_reverse zero k j h = absurd (omega arith)
bit_reverse (suc d) k j h = ⊎_elim (lower (bit_reverse d (k / 2) j)) highest (lt_or_ge j d)
  where
    r : ℕ
    r = reverse_bits d (k / 2)

    lower : (j < d → bit r j ≡ bit (k / 2) (d - 1 - j)) → j < d → bit (k % 2 * 2 ^ d + r) j ≡ bit k (suc d - 1 - j)
    lower ih l =
        bit_below d (k % 2) r j (omega arith) l ∙ ih l ∙ sym (bit_up k (d - 1 - j)) ∙ ap (bit k) (omega arith)

    highest : d ≤ j → bit (k % 2 * 2 ^ d + r) j ≡ bit k (suc d - 1 - j)
    highest l =
        let same : j ≡ d = omega arith in
        let none : 0 ≡ suc d - 1 - j = omega arith in
        ap (bit (k % 2 * 2 ^ d + r)) same ∙ bit_top d (k % 2) r (omega arith) (reverse_below d (k / 2)) ∙ sym (bit_low k) ∙ ap (bit k) none
