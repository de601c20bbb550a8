-- What the limits say: legal sizes are within the largest ones. Assumes nothing.
use Rattle.std.specs.Prelude.{◌≡◌, refl, Bool, true, false, ◌||◌, cond, ◌↔◌, ℕ, ◌+◌, ◌*◌, ◌-◌, ◌^◌, ◌≤◌, ◌<◌, eqb, leb}
use Rattle.std.proofs.Common.{sym, ap, subst, ◌∙◌, ⊎_elim, mul_assoc, mul-le-mul, mul-le-mul_left, arith, pow-add, pow_mono, eqb-true, leb-true, le-leb}
use Rattle.std.proofs.lemmas.Bool.{false≢true, lt-leb}
use Rattle.std.proofs.Math.Pow.{pow-lt}
use Rattle.algebra.specs.Flags.{cond_true}
use Rattle.algebra.specs.Order.{lt_or_ge}
use Rattle.algebra.specs.Tests.{and_both}
use Rattle.job.specs.Outcome.{done}
use Rattle.job.specs.OutcomeLaws.{pass, holds, held, require_done}
use Rattle.job.specs.Limits.{max_depth, max_rate, rate_ok, block_size, diagonals_size, max_message, max_block}
use Rattle.job.specs.LimitLaws.{rate_least, rate_most, product_most}
use Rattle.job.specs.Sizes.{Size, one, two, four, k0_ok, sound_k, depth_ok, limits, size_ok, in_limits, base_size, message_size, matrix_size, low, point_size}

pub size_least : {k : ℕ} → Size k → 0 < k
size_least one = omega arith
size_least two = omega arith
size_least four = omega arith

pub size_most : {k : ℕ} → Size k → k ≤ 4
size_most one = omega arith
size_most two = omega arith
size_most four = omega arith

pub size_of : (k : ℕ) → k0_ok k ≡ true → Size k
unfolding k0_ok
size_of k e = go (eqb k 1) (eqb k 2) (eqb k 4) (eqb-true k 1) (eqb-true k 2) (eqb-true k 4) e
  where
    go : (a b c : Bool) → (a ≡ true → k ≡ 1) → (b ≡ true → k ≡ 2) → (c ≡ true → k ≡ 4) → ((a || b) || c) ≡ true → Size k
    go true b c p q r e = subst Size (sym (p refl)) one
    go false true c p q r e = subst Size (sym (q refl)) two
    go false false true p q r e = subst Size (sym (r refl)) four
    go false false false p q r e = absurd (false≢true e)

pub sound_is : (k : ℕ) → k0_ok k ≡ true → sound_k k ≡ k
unfolding sound_k
sound_is k e = cond_true k 1 e

-- the variables inside the base message, for any k as it is judged
pub power_low : (k : ℕ) → 2 ^ low k ≡ sound_k k
unfolding sound_k k0_ok low
power_low k = go (eqb k 1) (eqb k 2) (eqb k 4) (eqb-true k 1) (eqb-true k 2) (eqb-true k 4)
  where
    go : (a b c : Bool) → (a ≡ true → k ≡ 1) → (b ≡ true → k ≡ 2) → (c ≡ true → k ≡ 4) → 2 ^ cond c 2 (cond b 1 0) ≡ cond ((a || b) || c) k 1
    go true true c p q r = absurd (omega (arith, p refl, q refl))
    go true false true p q r = absurd (omega (arith, p refl, r refl))
    go true false false p q r = sym (p refl)
    go false true true p q r = absurd (omega (arith, q refl, r refl))
    go false true false p q r = sym (q refl)
    go false false true p q r = sym (r refl)
    go false false false p q r = refl

pub power_is : (k : ℕ) → k0_ok k ≡ true → 2 ^ low k ≡ k
power_is k e = power_low k ∙ sound_is k e

pub low_most : (k : ℕ) → low k ≤ 2
unfolding low
low_most k = go (eqb k 2) (eqb k 4)
  where
    go : (b c : Bool) → cond c 2 (cond b 1 0) ≤ 2
    go b true = omega arith
    go true false = omega arith
    go false false = omega arith

-- a message has 2^n words where a point has n: the depth as it is tested
pub depth_by_point : (k d : ℕ) → leb (point_size d k) max_depth ≡ depth_ok k d
unfolding depth_ok
depth_by_point k d =
    ⊎_elim
    (λ h. lt-leb (point_size d k) max_depth h ∙ sym (lt-leb (sound_k k * 2 ^ d) max_message (rw (sym whole) (pow-lt {i = max_depth} {j = low k + d} (omega arith)))))
    (λ h. le-leb (point_size d k) max_depth h ∙ sym (le-leb (sound_k k * 2 ^ d) max_message (rw (sym whole) (pow_mono {i = low k + d} {j = max_depth} (omega arith)))))
    (lt_or_ge max_depth (point_size d k))
  where
    whole : 2 ^ (low k + d) ≡ sound_k k * 2 ^ d
    whole = pow-add 2 (low k) d ∙ ap (λ n. n * 2 ^ d) (power_low k)

-- limits as an outcome and as one test
pub limits_done : (d c k : ℕ) → in_limits d c k ≡ true → done tt ≡ limits d c k
limits_done d c k e =
    let a = and_both (depth_ok k d) _ e in
    let b = and_both (rate_ok c) (k0_ok k) a.1 in
    pass 1 a.0 (pass 2 b.0 (holds 13 b.1))

pub limits_within : (d c k : ℕ) → limits d c k ≡ done tt → in_limits d c k ≡ true
limits_within d c k e =
    let a = require_done (depth_ok k d) 1 e in
    let b = require_done (rate_ok c) 2 a.1 in
    rw (a.0, b.0) (held (k0_ok k) 13 b.1)

pub limits_exactly : (d c k : ℕ) → (limits d c k ≡ done tt) ↔ (in_limits d c k ≡ true)
limits_exactly d c k = (limits_within d c k, λ e. sym (limits_done d c k e))

-- depth and k alone
pub limits_size : (d c k : ℕ) → in_limits d c k ≡ true → size_ok d k ≡ true
limits_size d c k e =
    let a = and_both (depth_ok k d) _ e in
    rw a.0 (and_both (rate_ok c) (k0_ok k) a.1).1

pub record WithinSize (d k : ℕ) : Type 0 where
  pub depth : d ≤ max_depth
  pub point : point_size d k ≤ max_depth
  pub size : Size k
  pub message : message_size d k ≤ max_message
  pub power : 2 ^ low k ≡ k

pub within_size : (d k : ℕ) → size_ok d k ≡ true → WithinSize d k
unfolding depth_ok
within_size d k e =
    let a = and_both (depth_ok k d) (k0_ok k) e in
    let p = leb-true (point_size d k) max_depth (depth_by_point k d ∙ a.0) in
    record {
      depth = omega arith;
      point = p;
      size = size_of k a.1;
      message = rw (sym (sound_is k a.1)) (leb-true _ _ a.0);
      power = power_is k a.1;
    }

-- a message has 2^n words where a point has n
pub message_power : (d k : ℕ) → 2 ^ low k ≡ k → message_size d k ≡ 2 ^ point_size d k
message_power d k e = let n : d + low k ≡ low k + d = omega arith in sym (ap (λ m. 2 ^ m) n ∙ pow-add 2 (low k) d ∙ ap (λ m. m * 2 ^ d) e)

-- within the limits
pub record Within (d c k : ℕ) : Type 0 where
  pub depth : d ≤ max_depth
  pub least : 0 < c
  pub rate : c ≤ max_rate
  pub size : Size k
  pub message : message_size d k ≤ max_message
  pub power : 2 ^ low k ≡ k

pub within : (d c k : ℕ) → in_limits d c k ≡ true → Within d c k
within d c k e =
    let a = and_both (depth_ok k d) _ e in
    let b = and_both (rate_ok c) (k0_ok k) a.1 in
    let w = within_size d k (limits_size d c k e) in
    record { depth = w.depth; least = omega (arith, rate_least c b.0); rate = rate_most c b.0; size = w.size; message = w.message; power = w.power }

module _ {d c k : ℕ} (𝓦 : Within d c k) where
  pub base_most : base_size c k ≤ max_rate * 4
  base_most = mul-le-mul 𝓦.rate (size_most 𝓦.size)

  pub matrix_most : matrix_size c k ≤ 4 * (max_rate * 4)
  matrix_most = mul-le-mul (size_most 𝓦.size) base_most

  -- a base block times what is at most 2^d
  pub blocks_most : (n : ℕ) → n ≤ 2 ^ d → base_size c k * n ≤ max_block
  blocks_most n h =
      let e : base_size c k * n ≡ c * (k * n) = mul_assoc c k n in
      let few : k * n ≤ k * 2 ^ d = mul-le-mul_left k h in
      omega (arith, e, product_most c (k * n) 𝓦.rate (omega (arith, few, 𝓦.message)))

  pub block_most : (i : ℕ) → i ≤ d → block_size (base_size c k) i ≤ max_block
  block_most i h = blocks_most (2 ^ i) (pow_mono h)

  pub diagonals_most : (i : ℕ) → i ≤ d → diagonals_size (base_size c k) i ≤ max_block
  diagonals_most i h = let p : 2 ^ i ≤ 2 ^ d = pow_mono h in blocks_most (2 ^ i - 1) (omega arith)
