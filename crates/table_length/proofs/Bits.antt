-- One set bit tells a power of two, and its trailing zeros the exponent. Assumes nothing.
use mathlib.Core.Path.{◌≡◌, refl, sym, ap, ap₂, ◌∙◌}
use mathlib.Core.Bool.{Bool, true, false}
use Prim.Native.Nat.{ℕ, zero, suc, ◌+◌, ◌*◌, ◌/◌, ◌%◌, ◌^◌, ◌<◌, ◌≤◌}
use native.Mathlib.Nat.{pow-suc, one-mul, le_refl}
use native.Mathlib.Omega.{arith}
use lib.Dec.{eqb}
use lib.Count.{ones, ones_step, ones_cat, count_trailing_zeros, under}
use lib.Pow.{pow_pos, pow_mono, pow-lt}
use borrow.Author.Tests.{eqb-true, eq-eqb}
use Rattle.table_length.specs.Depth.{is_power_to, exponent_to}
use Rattle.table_length.specs.DepthLaws.{exponent_most, exponent_is, power_is}

ones_zero : ones 0 ≡ 0
unfolding ones
ones_zero = refl

ones_power : (d : ℕ) → ones (2 ^ d) ≡ 1
unfolding ones
ones_power d = let e : 2 ^ d ≡ 1 * 2 ^ d + 0 = omega (arith, one-mul (2 ^ d)) in ap ones e ∙ ones_cat d 1 0 (pow_pos d)

-- below 2^k
none_set : (k n : ℕ) → n < 2 ^ k → ones n ≡ 0 → n ≡ 0
none_set zero n h e = omega arith
none_set (suc k) n h e = let s = ones_step n in omega (arith, none_set k (n / 2) (omega (arith, pow-suc 2 k)) (omega arith))

trailing_power : (w d : ℕ) → d < w → count_trailing_zeros w (2 ^ d) ≡ d
unfolding count_trailing_zeros
trailing_power zero d h = absurd (omega arith)
trailing_power (suc w) zero h = refl
trailing_power (suc w) (suc d) h =
    ap₂ (λ r q. under r (count_trailing_zeros w q)) even half ∙ ap suc (trailing_power w d (omega arith))
  where
    even : 2 ^ suc d % 2 ≡ 0
    even = omega (arith, pow-suc 2 d)

    half : 2 ^ suc d / 2 ≡ 2 ^ d
    half = omega (arith, pow-suc 2 d)

-- a number below 2^k with one bit set is one of the powers
record Power (k n : ℕ) : Type 0 where
  place : ℕ
  small : place < k
  is : n ≡ 2 ^ place

one_set : (k n : ℕ) → n < 2 ^ k → ones n ≡ 1 → Power k n
one_set zero n h e = let z : n ≡ 0 = omega arith in absurd (omega (arith, ap ones z ∙ ones_zero))
one_set (suc k) n h e = go (one_set k (n / 2) small) (n % 2) refl
  where
    small : n / 2 < 2 ^ k
    small = omega (arith, pow-suc 2 k)

    go : (ones (n / 2) ≡ 1 → Power k (n / 2)) → (r : ℕ) → n % 2 ≡ r → Power (suc k) n
    go rest zero p =
        let r = rest (omega (arith, ones_step n)) in
        record { place = suc r.place; small = omega (arith, r.small); is = omega (arith, pow-suc 2 r.place, r.is) }
    go rest (suc r) p =
        record { place = 0; small = omega arith; is = omega (arith, none_set k (n / 2) small (omega (arith, ones_step n))) }

-- so among the numbers up to 2^k those with one bit set are the powers up to 2^k
pub one_bit : (k n : ℕ) → n ≤ 2 ^ k → eqb (ones n) 1 ≡ is_power_to k n
one_bit k n h = go (eqb (ones n) 1) refl (is_power_to k n) refl
  where
    go : (a : Bool) → eqb (ones n) 1 ≡ a → (b : Bool) → is_power_to k n ≡ b → a ≡ b
    go true p true q = refl
    go false p false q = refl
    go true p false q =
        let d = one_set (suc k) n (omega (arith, pow-lt (le_refl (suc k)))) (eqb-true (ones n) 1 p) in
        sym (power_is k d.place (omega (arith, d.small))) ∙ ap (is_power_to k) (sym d.is) ∙ q
    go false p true q = sym p ∙ eq-eqb (ones n) 1 (ap ones (exponent_is k n q) ∙ ones_power (exponent_to k n))

pub too_large : (k n : ℕ) → 2 ^ k < n → false ≡ is_power_to k n
too_large k n h = go (is_power_to k n) refl
  where
    go : (b : Bool) → is_power_to k n ≡ b → false ≡ b
    go true q = absurd (omega (arith, exponent_is k n q, pow_mono (exponent_most k n q)))
    go false q = refl

pub zeros_below : (w k n : ℕ) → k < w → is_power_to k n ≡ true → count_trailing_zeros w n ≡ exponent_to k n
zeros_below w k n h e = ap (count_trailing_zeros w) (exponent_is k n e) ∙ trailing_power w (exponent_to k n) (omega (arith, exponent_most k n e))
