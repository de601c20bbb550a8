-- Laws of depths: a length that a table may have is 2 to its depth, and each such power is one; which lengths these are for k words a base message. Assumes nothing.
use Rattle.std.specs.Prelude.{◌≡◌, refl, Bool, true, false, ◌||◌, ◌&&◌, cond, ◌↔◌, ℕ, zero, suc, ◌+◌, ◌*◌, ◌-◌, ◌^◌, ◌<◌, ◌≤◌, eqb, leb}
use Rattle.std.proofs.Common.{sym, ap, ap₂, ◌∙◌, le_refl, arith, pow-add, pow_mono, eqb-true, eq-eqb, leb-true, le-leb}
use Rattle.std.proofs.Math.Decide.{dec_lt}
use Rattle.std.proofs.Math.Pow.{pow-lt}
use Rattle.algebra.specs.Tests.{and_both}
use Rattle.job.specs.Limits.{max_depth, max_message}
use Rattle.job.specs.LimitLaws.{power_most}
use Rattle.job.specs.Sizes.{sound_k, low}
use Rattle.job.specs.SizeLaws.{power_low}
use Rattle.table_length.specs.Depth.{is_power_to, exponent_to, is_power, exponent, table_ok}

-- what the exponent is
Is : ℕ → ℕ → ℕ → Type 0
Is k n d = (d ≤ k) × (n ≡ 2 ^ d)

turn : (k n d : ℕ) (b rest : Bool) → eqb n (2 ^ suc k) ≡ b → (b || rest) ≡ true → (rest ≡ true → Is k n d) → Is (suc k) n (cond b (suc k) d)
unfolding Is
turn k n d true rest p e h = (le_refl (suc k), eqb-true n (2 ^ suc k) p)
turn k n d false rest p e h = let i = h e in (omega arith, i.1)

is_to : (k n : ℕ) → is_power_to k n ≡ true → Is k n (exponent_to k n)
unfolding is_power_to exponent_to Is
is_to zero n e = (le_refl 0, eqb-true n 1 e)
is_to (suc k) n e = turn k n (exponent_to k n) (eqb n (2 ^ suc k)) (is_power_to k n) refl e (is_to k n)

pub exponent_most : (k n : ℕ) → is_power_to k n ≡ true → exponent_to k n ≤ k
unfolding Is
exponent_most k n e = (is_to k n e).0

pub exponent_is : (k n : ℕ) → is_power_to k n ≡ true → n ≡ 2 ^ exponent_to k n
unfolding Is
exponent_is k n e = (is_to k n e).1

-- none is longer than the largest message
pub length_most : (n : ℕ) → is_power n ≡ true → n ≤ max_message
length_most n e = omega (arith, exponent_is max_depth n e, power_most (exponent n) (exponent_most max_depth n e))

-- each such power is one, with its own exponent
or_true : (b : Bool) → (b || true) ≡ true
or_true true = refl
or_true false = refl

pub power_is : (k d : ℕ) → d ≤ k → is_power_to k (2 ^ d) ≡ true
unfolding is_power_to
power_is zero d h = let z : d ≡ 0 = omega arith in eq-eqb (2 ^ d) 1 (ap (λ n. 2 ^ n) z)
power_is (suc k) d h = go (power_is k d) (dec_lt d (suc k))
  where
    go : (d ≤ k → is_power_to k (2 ^ d) ≡ true) → Dec (d < suc k) → is_power_to (suc k) (2 ^ d) ≡ true
    go rest (yes l) = ap (λ b. eqb (2 ^ d) (2 ^ suc k) || b) (rest (omega arith)) ∙ or_true (eqb (2 ^ d) (2 ^ suc k))
    go rest (no l) = let z : d ≡ suc k = omega arith in ap (λ b. b || is_power_to k (2 ^ d)) (eq-eqb (2 ^ d) (2 ^ suc k) (ap (λ n. 2 ^ n) z))

-- the length of a table, with k words a base message
pub table_power : (k n : ℕ) → table_ok k n ≡ true → is_power n ≡ true
unfolding table_ok
table_power k n e = (and_both (is_power n) (leb (sound_k k) n) e).0

-- some depth has n entries, and they are not too many
pub record TableSize (k n : ℕ) : Type 0 where
  pub depth : ℕ
  pub is : n ≡ sound_k k * 2 ^ depth
  pub most : n ≤ max_message

-- powers are in the order of their exponents
exponent_least : (i j : ℕ) → 2 ^ i ≤ 2 ^ j → i ≤ j
exponent_least i j h = go (dec_lt j i)
  where
    go : Dec (j < i) → i ≤ j
    go (yes l) = absurd (omega (arith, pow-lt l))
    go (no l) = omega arith

whole : (k d : ℕ) → 2 ^ (low k + d) ≡ sound_k k * 2 ^ d
whole k d = pow-add 2 (low k) d ∙ ap (λ n. n * 2 ^ d) (power_low k)

-- the lengths that pass are those
pub table_exactly : (k n : ℕ) → (table_ok k n ≡ true) ↔ TableSize k n
unfolding table_ok
table_exactly k n = (there, back)
  where
    there : (is_power n && leb (sound_k k) n) ≡ true → TableSize k n
    there e =
        let a = and_both (is_power n) (leb (sound_k k) n) e in
        let is = exponent_is max_depth n a.0 in
        let few = exponent_least (low k) (exponent n) (omega (arith, power_low k, is, leb-true (sound_k k) n a.1)) in
        let up : exponent n ≡ low k + (exponent n - low k) = omega arith in
        record { depth = exponent n - low k; is = is ∙ ap (λ i. 2 ^ i) up ∙ whole k (exponent n - low k); most = length_most n a.0 }

    back : TableSize k n → (is_power n && leb (sound_k k) n) ≡ true
    back s =
        let is : n ≡ 2 ^ (low k + s.depth) = s.is ∙ sym (whole k s.depth) in
        let few = exponent_least (low k + s.depth) max_depth (omega (arith, is, s.most)) in
        ap₂ ◌&&◌ (ap is_power is ∙ power_is max_depth (low k + s.depth) few)
        (le-leb (sound_k k) n (omega (arith, is, power_low k, pow_mono {i = low k} {j = low k + s.depth} (omega arith))))
