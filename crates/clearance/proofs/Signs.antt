-- What the machine makes of a clearance: its bits read back, and negated, at 32 bits. Assumes nothing.
use mathlib.Core.Path.{◌≡◌, refl, sym, ap, ap₂, ◌∙◌}
use mathlib.Core.Bool.{Bool, true, false, cond, false≢true}
use mathlib.Core.List.{List, map}
use Prim.Native.Nat.{ℕ, zero, suc, ◌-◌, ◌<◌, ◌≤◌}
use native.Mathlib.Nat.{zero-add}
use native.Mathlib.Omega.{arith}
use lib.Dec.{ltb}
use lib.IntN.{ℤ, pos, negsuc, neg_ℤ, nat_abs, ◌-ℤ◌}
use lib.ListN.{get_or, get_or-map}
use lib.Signed.{lt_z, mag}
use borrow.Author.Tests.{lt-ltb, ltb-true}
use mir.Syntax.{w32}
use mir.Val.{SFits, to_z, of_z}
use mir.ValLaws.{to_z-of_z, to_z_pos}
use Rattle.algebra.specs.Words.{PrimeField}
use Rattle.clearance.specs.Clearances.{clearance_by, max_clearance, in_range}
use Rattle.clearance.specs.ClearanceLaws.{by_pos, by_negsuc, range_pos, range_negsuc}

abbrev pub Read : ℤ → ℤ
Read x = to_z w32 (of_z w32 x)

negated_negsuc : (n : ℕ) → pos 0 -ℤ negsuc n ≡ pos (suc n)
negated_negsuc n = ap pos (zero-add (suc n))

negated_suc : (n : ℕ) → pos 0 -ℤ pos (suc n) ≡ negsuc n
negated_suc n =
    let less : suc n - 1 ≡ n = omega arith in
    ap₂ (λ b k. cond b (negsuc k) (pos (0 - suc n))) (lt-ltb 0 (suc n) (omega arith)) less

negated_pos : (n : ℕ) → pos 0 -ℤ pos n ≡ neg_ℤ (pos n)
negated_pos zero = refl
negated_pos (suc n) = negated_suc n

pub read_any : (x : ℤ) → mag x < 2147483648 → Read x ≡ x
read_any x h = to_z-of_z w32 x (record { sfits = h })

read : (x : ℤ) → nat_abs x < 2147483648 → Read x ≡ x
read (pos n) h = read_any (pos n) h
read (negsuc n) h = read_any (negsuc n) (omega arith)

fits_abs : (x : ℤ) → nat_abs x < 2147483648 → SFits w32 x
fits_abs (pos n) h = record { sfits = h }
fits_abs (negsuc n) h = record { sfits = omega arith }

abs_neg : (n : ℕ) → nat_abs (neg_ℤ (pos n)) ≡ n
abs_neg zero = refl
abs_neg (suc n) = refl

-- a number below zero, that is above -p: its negation
module _ (p : ℕ) (top : p ≤ 2147483647) where
  pub record Below (x : ℤ) : Type 0 where
    pub less : ℕ
    pub small : suc less < p
    pub is : x ≡ negsuc less
    pub negated : pos 0 -ℤ Read x ≡ pos (suc less)
    pub back : Read (pos 0 -ℤ Read x) ≡ pos (suc less)

  pub below : (x : ℤ) → nat_abs x < p → lt_z (Read x) (pos 0) ≡ true → Below x
  below (pos n) e h = absurd (omega (arith, ltb-true n 0 (ap (λ y. lt_z y (pos 0)) (sym (read (pos n) (omega arith))) ∙ h)))
  below (negsuc n) e h =
      let m = ap (λ y. pos 0 -ℤ y) (read (negsuc n) (omega arith)) ∙ negated_negsuc n in
      record { less = n; small = e; is = refl; negated = m; back = ap Read m ∙ read (pos (suc n)) (omega arith) }

  -- and one that is not below zero
  pub record Above (x : ℤ) : Type 0 where
    pub distance : ℕ
    pub small : distance < p
    pub is : x ≡ pos distance
    pub back : Read x ≡ pos distance

  pub above : (x : ℤ) → nat_abs x < p → lt_z (Read x) (pos 0) ≡ false → Above x
  above (pos n) e h = record { distance = n; small = e; is = refl; back = read (pos n) (omega arith) }
  above (negsuc n) e h = absurd (false≢true (sym h ∙ ap (λ y. lt_z y (pos 0)) (read (negsuc n) (omega arith))))

  -- the residues on both sides of the border, as the machine turns them into clearances
  module _ (border : ℕ) where
    pub record Overlapping (w : ℕ) : Type 0 where
      pub fits : SFits w32 (pos 0 -ℤ to_z w32 (p - w))
      pub is : Read (pos 0 -ℤ to_z w32 (p - w)) ≡ clearance_by border p w

    -- and what they are fits
    read_by : (w : ℕ) → w < p → Read (clearance_by border p w) ≡ clearance_by border p w
    read_by w l = read (clearance_by border p w) (go (ltb w border))
      where
        go : (b : Bool) → nat_abs (cond b (pos w) (neg_ℤ (pos (p - w)))) < 2147483648
        go true = omega arith
        go false = rw abs_neg (omega arith)

    -- what the words of a list are
    pub read_at : (ws : List ℕ) (i : ℕ) {w : ℕ} {x : ℤ} → x ≡ clearance_by border p w → w ≡ get_or ws i 0 → w < p
        → Read x ≡ get_or (map (clearance_by border p) ws) i (clearance_by border p 0)
    read_at ws i {w} e is l = ap Read e ∙ read_by w l ∙ ap (clearance_by border p) is ∙ sym (get_or-map (clearance_by border p) ws i 0)

    pub not_overlapping : (w : ℕ) → w < border → w < p → to_z w32 w ≡ clearance_by border p w
    not_overlapping w h l = to_z_pos w32 w (omega arith) ∙ sym (by_pos border p w h)

    pub overlapping : (w : ℕ) → border ≤ w → w < p → Overlapping w
    overlapping w h l = go (p - w) refl
      where
        go : (k : ℕ) → p - w ≡ k → Overlapping w
        go zero e = absurd (omega arith)
        go (suc n) e =
            let m : pos 0 -ℤ to_z w32 (p - w) ≡ negsuc n = ap (λ k. pos 0 -ℤ to_z w32 k) e ∙ ap (λ y. pos 0 -ℤ y) (to_z_pos w32 (suc n) (omega arith)) ∙ negated_suc n in
            record {
              fits = rw m (record { sfits = omega arith });
              is = ap Read m ∙ read (negsuc n) (omega arith) ∙ sym (by_negsuc border p w n h e);
            }

module _ (𝓕 : PrimeField) where
  open 𝓕 use {modulus as P, above as least}

  -- the largest clearance and its negation
  pub record Limits (x : ℤ) : Type 0 where
    pub high : Read x ≡ pos (max_clearance 𝓕)
    pub fits : SFits w32 (pos 0 -ℤ Read x)
    pub low : Read (pos 0 -ℤ Read x) ≡ neg_ℤ (pos (max_clearance 𝓕))

  pub limits : P ≤ 2147483647 → (x : ℤ) → x ≡ pos (max_clearance 𝓕) → Limits x
  limits m x e =
      let high = ap Read e ∙ read (pos (max_clearance 𝓕)) (omega arith) in
      let less = ap (λ y. pos 0 -ℤ y) high ∙ negated_pos (max_clearance 𝓕) in
      let small : nat_abs (neg_ℤ (pos (max_clearance 𝓕))) < 2147483648 = rw abs_neg (omega arith) in
      record { high = high; fits = rw less (fits_abs _ small); low = ap Read less ∙ read _ small }

  -- a clearance in range is above -p and below p
  pub range_abs : (x : ℤ) → in_range 𝓕 x ≡ true → nat_abs x < P
  range_abs (pos n) e = omega (arith, range_pos 𝓕 n e, least)
  range_abs (negsuc n) e = omega (arith, range_negsuc 𝓕 n e, least)
