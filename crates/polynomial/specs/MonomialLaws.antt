-- Monomials by the highest variable that they have. Assumes nothing.
use Rattle.std.specs.Prelude.{◌≡◌, List, take, get_or}
use Rattle.std.proofs.Math.Path.{refl, ap, ap₂}
use Rattle.std.proofs.Common.{sym, ◌∙◌, length-take, get_or-take}
use Prim.Native.Nat.{ℕ, zero, suc, ◌+◌ as ◌+ℕ◌, ◌-◌ as ◌-ℕ◌, ◌^◌, ◌<◌, ◌≤◌}
use Rattle.std.proofs.Math.Nat.{two-pow-succ}
use native.Mathlib.Omega.{arith}
use Rattle.std.proofs.Math.ListN.{length}
use Rattle.std.proofs.Math.Pow.{pow_mono}
use Rattle.algebra.specs.Ring.{Ring}
use Rattle.algebra.specs.Sums.{prod}
use Rattle.algebra.specs.Bits.{bit, either, bit_clear, bit_set, bit_same}
use Rattle.multilinear.specs.Polynomial.{monomial}

module _ (K : Ring) where
  infixl 70 ◌*◌
  open K use {R, ◌*◌, 𝟘, 𝟙, mul-one}

  -- of the lowest n variables only
  abbrev first : ℕ → ℕ → List R → R
  first n b z = prod K n (λ i. either (bit b i) (get_or z i 𝟘) 𝟙)

  first_same : (n b c : ℕ) (y z : List R) → ((i : ℕ) → i < n → bit b i ≡ bit c i) → ((i : ℕ) → i < n → get_or y i 𝟘 ≡ get_or z i 𝟘)
      → first n b y ≡ first n c z
  unfolding prod
  first_same zero b c y z p q = refl
  first_same (suc n) b c y z p q =
      ap₂ ◌*◌ (first_same n b c y z (λ i h. p i (omega arith)) (λ i h. q i (omega arith)))
      (ap₂ (λ k a. either k a 𝟙) (p n (omega arith)) (q n (omega arith)))

  -- a number below 2^n has no bit from n on
  first_more : (n k b : ℕ) (z : List R) → b < 2 ^ n → first (k +ℕ n) b z ≡ first n b z
  unfolding prod
  first_more n zero b z h = let e : 0 +ℕ n ≡ n = omega arith in ap (λ j. first j b z) e
  first_more n (suc k) b z h =
      let e : suc k +ℕ n ≡ suc (k +ℕ n) = omega arith in
      ap (λ j. first j b z) e
      ∙ ap₂ ◌*◌ (first_more n k b z h) (ap (λ j. either j (get_or z (k +ℕ n) 𝟘) 𝟙) (bit_clear (k +ℕ n) b (omega (arith, pow_mono {i = n} {j = k +ℕ n} (omega arith)))))
      ∙ mul-one (first n b z)

  first_set : (n b : ℕ) (z : List R) → b < 2 ^ n → first (suc n) (2 ^ n +ℕ b) z ≡ first n b z * get_or z n 𝟘
  unfolding prod
  first_set n b z h =
      ap₂ ◌*◌ (first_same n (2 ^ n +ℕ b) b z z (λ i l. bit_same n b i l) (λ i l. refl)) (ap (λ k. either k (get_or z n 𝟘) 𝟙) (bit_set n b h))

  monomial_first : (n b : ℕ) (z : List R) → n ≤ length z → b < 2 ^ n → monomial K b z ≡ first n b z
  unfolding monomial
  monomial_first n b z l h =
      let e : length z ≡ length z -ℕ n +ℕ n = omega arith in
      ap (λ j. first j b z) e ∙ first_more n (length z -ℕ n) b z h

  -- the product of no variables
  pub monomial_none : (z : List R) → monomial K 0 z ≡ 𝟙
  unfolding prod
  monomial_none z = monomial_first 0 0 z (omega arith) (omega arith)

  -- with variable i above all others
  pub monomial_set : (i b : ℕ) (z : List R) → i < length z → b < 2 ^ i → monomial K (2 ^ i +ℕ b) z ≡ monomial K b z * get_or z i 𝟘
  monomial_set i b z l h =
      monomial_first (suc i) (2 ^ i +ℕ b) z (omega arith) (omega (arith, two-pow-succ i))
      ∙ first_set i b z h ∙ ap (λ a. a * get_or z i 𝟘) (sym (monomial_first i b z (omega arith) h))

  -- higher variables change nothing
  pub monomial_take : (n b : ℕ) (z : List R) → n ≤ length z → b < 2 ^ n → monomial K b (take n z) ≡ monomial K b z
  monomial_take n b z l h =
      monomial_first n b (take n z) (omega (arith, length-take n z)) h
      ∙ first_same n b b (take n z) z (λ i k. refl) (λ i k. get_or-take n z i 𝟘 k) ∙ sym (monomial_first n b z l h)
