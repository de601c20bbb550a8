-- The closed form of h_i, its degree, and the sums that the polynomials h_i give. Assumes nothing.
use Rattle.std.specs.Prelude.{◌≡◌, refl, length, take, get_or}
use Rattle.std.proofs.Math.Path.{sym, ap, ap₂}
use Rattle.std.proofs.Common.{◌∙◌, take-append-drop, length-take}
use mathlib.Core.List.{List, [], ◌∷◌, ◌++◌, append-nil}
use Prim.Native.Nat.{ℕ, suc, ◌+◌ as ◌+ℕ◌, ◌-◌ as ◌-ℕ◌, ◌^◌, ◌<◌, ◌≤◌}
use native.Mathlib.Omega.{arith}
use Rattle.std.proofs.Math.ListN.{drop}
use Rattle.std.proofs.Math.Seq.{append_snoc, drop-cons, drop-length}
use Rattle.algebra.specs.Ring.{Ring}
use Rattle.algebra.specs.Numerals.{num}
use Rattle.algebra.specs.Algebra.{algebra, quote}
use Rattle.algebra.specs.Lists.{length_row, get_or_row}
use Rattle.multilinear.specs.Polynomial.{form, coefficient, poly, form_ext, form_append, form_line, fixed}
use Rattle.multilinear.specs.Corners.{over_corners, eq, corners_ext, corners_scale, corners_top, eq_cons, eq_append, extension}
use Rattle.multilinear.specs.Quadratic.{Quadratic, through, through_values}
use Rattle.multilinear.specs.Rounds.{weighted, h, final, final_sum, remaining}

module _ (K : Ring) (low : ℕ) where
  infixl 65 ◌+◌
  infixl 65 ◌-◌
  infixl 70 ◌*◌
  open K use {R, ◌+◌, ◌*◌, ◌-◌, 𝟘, 𝟙, mul_comm}

  module _ (m z r : List R) where
    h_of : (i : ℕ) (X : R) → h K low m z r (suc i) X ≡ over_corners K (low +ℕ i) (λ c. weighted K low m z (c ++ X ∷ drop (suc i) r))
    unfolding h
    h_of i X =
        let n : low +ℕ suc i -ℕ 1 ≡ low +ℕ i = omega arith in
        ap (λ (k : ℕ). over_corners K k (λ c. weighted K low m z (c ++ X ∷ drop (suc i) r))) n

    pub h_sum : (i : ℕ) → h K low m z r (suc i) 𝟘 + h K low m z r (suc i) 𝟙 ≡ remaining K low m z r (suc i)
    unfolding remaining
    h_sum i =
        let n : suc (low +ℕ i) ≡ low +ℕ suc i = omega arith in
        ap₂ ◌+◌ (h_of i 𝟘) (h_of i 𝟙)
        ∙ sym (ap₂ ◌+◌ (snoc 𝟘) (snoc 𝟙))
        ∙ sym (corners_top K (low +ℕ i) F) ∙ ap (λ (k : ℕ). over_corners K k F) n
      where
        F : List R → R
        F c = weighted K low m z (c ++ drop (suc i) r)

        snoc : (x : R) → over_corners K (low +ℕ i) (λ c. F (c ++ x ∷ [])) ≡ over_corners K (low +ℕ i) (λ c. weighted K low m z (c ++ x ∷ drop (suc i) r))
        snoc x = corners_ext K (low +ℕ i) _ _ (λ c e. ap (weighted K low m z) (append_snoc c x (drop (suc i) r)))

    pub h_at : (i : ℕ) → i < length r → h K low m z r (suc i) (get_or r i 𝟘) ≡ remaining K low m z r i
    unfolding remaining
    h_at i l = h_of i (get_or r i 𝟘) ∙ rw (← drop-cons r i 𝟘)

    pub remaining_all : length z ≡ low +ℕ length r → remaining K low m z r (length r) ≡ poly K m z
    unfolding remaining
    remaining_all e =
        rw (drop-length r, ← e)
        (corners_ext K (length z) _ (λ c. poly K m (c ++ []) * eq K z c) (λ c k. rw append-nil)
        ∙ extension K (coefficient K m) z [] ∙ ap (poly K m) (append-nil z))

    -- ---- the sums: h_d gives f(z), and each lower one the value of the one above at its challenge

    pub sum_first : (i : ℕ) → length r ≡ suc i → length z ≡ low +ℕ length r → h K low m z r (suc i) 𝟘 + h K low m z r (suc i) 𝟙 ≡ poly K m z
    sum_first i d e = h_sum i ∙ ap (remaining K low m z r) (sym d) ∙ remaining_all e

    pub sum_next : (i : ℕ) → suc i < length r → h K low m z r (suc i) 𝟘 + h K low m z r (suc i) 𝟙 ≡ h K low m z r (suc (suc i)) (get_or r (suc i) 𝟘)
    sum_next i l = h_sum i ∙ sym (h_at (suc i) l)

    pub final_sum_lem : final_sum K low (final K low m r) z r ≡ remaining K low m z r 0
    unfolding final_sum final remaining
    final_sum_lem =
        corners_ext K low _ (λ c. weighted K low m z (c ++ r))
        (λ c e. ap (λ (a : R). a * eq K z (c ++ r))
        (form_ext K _ _ c (λ a l. get_or_row (2 ^ low) _ a 𝟘 (rw e at l))
        ∙ ap (λ (n : ℕ). form K (fixed K n (coefficient K m) r) c) (sym e) ∙ sym (form_append K (coefficient K m) c r)))
        ∙ ap (λ (n : ℕ). over_corners K n (λ c. weighted K low m z (c ++ r))) (omega arith)

    pub sum_last : 0 < length r → final_sum K low (final K low m r) z r ≡ h K low m z r 1 (get_or r 0 𝟘)
    sum_last l = final_sum_lem ∙ sym (h_at 0 l)

    -- ---- the closed form, and the degree

    pub h_closed : (i : ℕ) (X : R) → low +ℕ i ≤ length z
        → h K low m z r (suc i) X ≡ eq K (drop (low +ℕ i) z) (X ∷ drop (suc i) r) * poly K m (take (low +ℕ i) z ++ X ∷ drop (suc i) r)
    h_closed i X l =
        h_of i X
        ∙ corners_ext K (low +ℕ i) _ (λ c. eq K u w * (poly K m (c ++ w) * eq K y c))
        (λ c e. ap (λ (a : R). poly K m (c ++ w) * a)
        (ap (λ (s : List R). eq K s (c ++ w)) (sym (take-append-drop (low +ℕ i) z)) ∙ eq_append K y u c w (e ∙ sym ly))
        ∙ algebra K (poly K m (c ++ w) ∷ eq K y c ∷ eq K u w ∷ []) (search quote depth 20) refl)
        ∙ corners_scale K (low +ℕ i) (eq K u w) _
        ∙ ap (λ (a : R). eq K u w * a) (ap (λ (n : ℕ). over_corners K n (λ c. poly K m (c ++ w) * eq K y c)) (sym ly) ∙ extension K (coefficient K m) y w)
      where
        y : List R
        y = take (low +ℕ i) z

        u : List R
        u = drop (low +ℕ i) z

        w : List R
        w = X ∷ drop (suc i) r

        ly : length y ≡ low +ℕ i
        ly = simp length-take (omega arith)

    -- by its factors: eq of the variables above, eq at X, and a line in X
    pub h_factors : (i : ℕ) (X : R) → low +ℕ i < length z → (a b : R) → ((x : R) → poly K m (take (low +ℕ i) z ++ x ∷ drop (suc i) r) ≡ a + x * b)
        → h K low m z r (suc i) X
        ≡ eq K (drop (suc (low +ℕ i)) z) (drop (suc i) r) * (get_or z (low +ℕ i) 𝟘 * X + (𝟙 - get_or z (low +ℕ i) 𝟘) * (𝟙 - X)) * (a + X * b)
    h_factors i X l a b line =
        h_closed i X (omega arith)
        ∙ ap₂ ◌*◌ (ap (λ (s : List R). eq K s (X ∷ drop (suc i) r)) (drop-cons z (low +ℕ i) 𝟘 l) ∙ eq_cons K _ X _ (drop (suc i) r)) (line X)
        ∙ ap (λ (t : R). t * (a + X * b)) (mul_comm _ _)

    pub h_degree : (i : ℕ) → low +ℕ i < length z → Quadratic K (h K low m z r (suc i))
    h_degree i l = record {
      c₀ = e * (𝟙 - ζ) * a;
      c₁ = e * ((ζ + ζ - 𝟙) * a + (𝟙 - ζ) * b);
      c₂ = e * (ζ + ζ - 𝟙) * b;
      is = λ X. h_factors i X l a b (form_line K (coefficient K m) y (drop (suc i) r)) ∙ algebra K (e ∷ ζ ∷ a ∷ b ∷ X ∷ []) (search quote depth 20) refl;
    }
      where
        ζ : R
        ζ = get_or z (low +ℕ i) 𝟘

        e : R
        e = eq K (drop (suc (low +ℕ i)) z) (drop (suc i) r)

        y : List R
        y = take (low +ℕ i) z

        a : R
        a = form K (fixed K (suc (length y)) (coefficient K m) (drop (suc i) r)) y

        b : R
        b = form K (λ j. fixed K (suc (length y)) (coefficient K m) (drop (suc i) r) (2 ^ length y +ℕ j)) y

    -- h is told by its values at 0, 1, 2
    pub h_through : (half : R) → num K 2 * half ≡ 𝟙 → (i : ℕ) (X : R) → low +ℕ i < length z
        → through K half (h K low m z r (suc i) (num K 0)) (h K low m z r (suc i) (num K 1)) (h K low m z r (suc i) (num K 2)) X ≡ h K low m z r (suc i) X
    h_through half two i X l = through_values K half two (h K low m z r (suc i)) (h_degree i l) X

  pub length_final : (m r : List R) → length (final K low m r) ≡ 2 ^ low
  unfolding final
  length_final m r = length_row (2 ^ low) _
