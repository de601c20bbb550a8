-- Laws of clearances: every one in range is one residue, and every residue is one clearance in range. Assumes nothing.
use Rattle.std.specs.Prelude.{◌≡◌, refl, Bool, true, false, ◌&&◌, cond, ℕ, zero, suc, ◌+◌, ◌-◌, ◌<◌, ◌≤◌, leb, ltb, ℤ, pos, negsuc, neg_ℤ}
use Rattle.std.proofs.Common.{sym, ap, ap₂, ◌∙◌, arith, lt-ltb, le-ltb, le-leb, leb-true, ltb-true, ltb-false}
use Rattle.std.proofs.Math.Dec.{leb-suc-zero, leb-suc-suc}
use Rattle.std.specs.Int.Signed.{le_z}
use Rattle.algebra.specs.Words.{PrimeField, 𝔽₁, 𝔽₂}
use Rattle.algebra.specs.Tests.{and_both}
use Rattle.residue.specs.Elements.{word, half}
use Rattle.residue.specs.Chosen.{half_is}
use Rattle.clearance.specs.Clearances.{clearance_by, max_clearance, border, in_range, residue_of, clearance_of}

-- the numbers of the two fields
pub first_numbers : (max_clearance 𝔽₁ ≡ 1073741823) × (border 𝔽₁ ≡ 1073741824)
first_numbers = (refl, refl)

pub second_numbers : (max_clearance 𝔽₂ ≡ 1006632960) × (border 𝔽₂ ≡ 1006632961)
second_numbers = (refl, refl)

-- a residue by the first that is an overlap
module _ (first p w : ℕ) where
  pub by_pos : w < first → clearance_by first p w ≡ pos w
  by_pos h = ap (λ b. cond b (pos w) (neg_ℤ (pos (p - w)))) (lt-ltb w first h)

  pub by_negsuc : (n : ℕ) → first ≤ w → p - w ≡ suc n → clearance_by first p w ≡ negsuc n
  by_negsuc n h e = ap₂ (λ b k. cond b (pos w) (neg_ℤ (pos k))) (le-ltb w first h) e

-- how far below zero
negative_by : (m n : ℕ) → le_z (neg_ℤ (pos m)) (negsuc n) ≡ leb (suc n) m
negative_by zero n = sym (leb-suc-zero n)
negative_by (suc k) n = sym (leb-suc-suc n k)

positive_by : (m n : ℕ) → le_z (neg_ℤ (pos m)) (pos n) ≡ true
positive_by zero n = le-leb 0 n (omega arith)
positive_by (suc k) n = refl

module _ (𝓕 : PrimeField) where
  open 𝓕 use {modulus as P, odd, above}

  -- the border is right above the largest distance
  pub border_next : border 𝓕 ≡ suc (max_clearance 𝓕)
  border_next = omega (arith, above)

  -- and the two halves make up the modulus
  pub border_rest : border 𝓕 + max_clearance 𝓕 ≡ P
  border_rest = omega (arith, odd, above)

  -- it is the word of 1 / 2
  pub border_half : border 𝓕 ≡ word 𝓕 (half 𝓕)
  border_half = half_is 𝓕 (border 𝓕) refl

  -- the range by the sign
  pub range_pos : (n : ℕ) → in_range 𝓕 (pos n) ≡ true → n ≤ max_clearance 𝓕
  range_pos n e = leb-true n (max_clearance 𝓕) (and_both (le_z (neg_ℤ (pos (max_clearance 𝓕))) (pos n)) (leb n (max_clearance 𝓕)) e).1

  pub range_negsuc : (n : ℕ) → in_range 𝓕 (negsuc n) ≡ true → suc n ≤ max_clearance 𝓕
  range_negsuc n e = leb-true (suc n) (max_clearance 𝓕) (sym (negative_by (max_clearance 𝓕) n) ∙ (and_both (le_z (neg_ℤ (pos (max_clearance 𝓕))) (negsuc n)) true e).0)

  pub pos_range : (n : ℕ) → n ≤ max_clearance 𝓕 → in_range 𝓕 (pos n) ≡ true
  pos_range n h = ap₂ ◌&&◌ (positive_by (max_clearance 𝓕) n) (le-leb n (max_clearance 𝓕) h)

  pub negsuc_range : (n : ℕ) → suc n ≤ max_clearance 𝓕 → in_range 𝓕 (negsuc n) ≡ true
  negsuc_range n h = ap (λ b. b && true) (negative_by (max_clearance 𝓕) n ∙ le-leb (suc n) (max_clearance 𝓕) h)

  -- every clearance is a residue, and reading it gives the clearance back
  pub residue_lt : (x : ℤ) → in_range 𝓕 x ≡ true → residue_of 𝓕 x < P
  residue_lt (pos n) e = omega (arith, range_pos n e, border_rest, border_next)
  residue_lt (negsuc n) e = omega (arith, range_negsuc n e, above)

  pub clearance_residue : (x : ℤ) → in_range 𝓕 x ≡ true → clearance_of 𝓕 (residue_of 𝓕 x) ≡ x
  clearance_residue (pos n) e = by_pos _ P n (omega (arith, range_pos n e, border_next))
  clearance_residue (negsuc n) e =
      let h = range_negsuc n e in
      let r = border_rest in
      let l = border_next in
      by_negsuc _ P (P - suc n) n (omega arith) (omega arith)

  -- every residue is one clearance, in range, whose residue it is
  overlaps : (w k : ℕ) → P - w ≡ k → border 𝓕 ≤ w → w < P → (n : ℕ) × (clearance_of 𝓕 w ≡ negsuc n) × (P - w ≡ suc n)
  overlaps w zero e h l = absurd (omega arith)
  overlaps w (suc n) e h l = (n, by_negsuc _ P w n h e, e)

  split : (w : ℕ) → w < P → (b : Bool) → ltb w (border 𝓕) ≡ b → (in_range 𝓕 (clearance_of 𝓕 w) ≡ true) × (residue_of 𝓕 (clearance_of 𝓕 w) ≡ w)
  split w l true e =
      let c = by_pos _ P w (ltb-true w (border 𝓕) e) in
      (ap (in_range 𝓕) c ∙ pos_range w (omega (arith, ltb-true w (border 𝓕) e, border_next)), ap (residue_of 𝓕) c)
  split w l false e =
      let h = ltb-false w (border 𝓕) e in
      let o = overlaps w (P - w) refl h l in
      (ap (in_range 𝓕) o.1 ∙ negsuc_range o.0 (omega (arith, border_rest)), ap (residue_of 𝓕) o.1 ∙ omega arith)

  pub clearance_range : (w : ℕ) → w < P → in_range 𝓕 (clearance_of 𝓕 w) ≡ true
  clearance_range w l = (split w l (ltb w (border 𝓕)) refl).0

  pub residue_clearance : (w : ℕ) → w < P → residue_of 𝓕 (clearance_of 𝓕 w) ≡ w
  residue_clearance w l = (split w l (ltb w (border 𝓕)) refl).1
