-- The determinants of 1, 2, 3 and 4 rows and the adjugates of 1, 2 and 4 rows, written out. Assumes nothing.
use Rattle.std.specs.Prelude.{◌≡◌}
use Rattle.std.proofs.Math.Path.{refl, ap}
use Rattle.std.proofs.Common.{ap₂, ◌∙◌}
use mathlib.Core.List.{[], ◌∷◌}
use Prim.Native.Nat.{ℕ, zero, suc, ◌*◌ as ◌*ℕ◌}
use native.Mathlib.Omega.{arith}
use Rattle.algebra.specs.Ring.{Ring, one-mul, neg_neg, neg_mul}
use Rattle.algebra.specs.Algebra.{algebra, quote}
use Rattle.algebra.specs.Lists.{row}
use Rattle.algebra.specs.Sums.{sum}
use Rattle.determinant.specs.Determinant.{without, sign, det, adjugate}

module _ (K : Ring) where
  infixl 65 ◌+◌
  infixl 65 ◌-◌
  infixl 70 ◌*◌
  open K use {R, ◌+◌, ◌*◌, ◌-◌, neg, 𝟘, 𝟙}

  pub det_one : (a : R) → det K 1 ((a ∷ []) ∷ []) ≡ a
  unfolding det sum sign
  det_one a = algebra K (a ∷ []) (search quote depth 20) refl

  pub det_two : (a b c d : R) → det K 2 ((a ∷ b ∷ []) ∷ (c ∷ d ∷ []) ∷ []) ≡ a * d - b * c
  unfolding det sum sign without
  det_two a b c d = algebra K (a ∷ b ∷ c ∷ d ∷ []) (search quote depth 40) refl

  first_three : (a b c p q r : R) → 𝟘 + 𝟙 * a * p + neg 𝟙 * b * q + neg (neg 𝟙) * c * r ≡ a * p - b * q + c * r
  first_three a b c p q r = algebra K (a ∷ b ∷ c ∷ p ∷ q ∷ r ∷ []) (search quote depth 40) refl

  -- the rows (a, b, c), (d, e, f) and (g, h, i)
  abbrev pub det₃ : R → R → R → R → R → R → R → R → R → R
  det₃ a b c d e f g h i = a * (e * i - f * h) - b * (d * i - f * g) + c * (d * h - e * g)

  pub det_three : (a b c d e f g h i : R) → det K 3 ((a ∷ b ∷ c ∷ []) ∷ (d ∷ e ∷ f ∷ []) ∷ (g ∷ h ∷ i ∷ []) ∷ []) ≡ det₃ a b c d e f g h i
  unfolding det sum sign without
  det_three a b c d e f g h i =
      first_three a b c _ _ _ ∙ (λ z. a * det_two e f h i z - b * det_two d f g i z + c * det_two d e g h z)

  first_four : (a b c d p q r s : R)
      → 𝟘 + 𝟙 * a * p + neg 𝟙 * b * q + neg (neg 𝟙) * c * r + neg (neg (neg 𝟙)) * d * s ≡ a * p - b * q + c * r - d * s
  first_four a b c d p q r s = algebra K (a ∷ b ∷ c ∷ d ∷ p ∷ q ∷ r ∷ s ∷ []) (search quote depth 40) refl

  pub det_four : (a b c d e f g h i j k l m n o p : R)
      → det K 4 ((a ∷ b ∷ c ∷ d ∷ []) ∷ (e ∷ f ∷ g ∷ h ∷ []) ∷ (i ∷ j ∷ k ∷ l ∷ []) ∷ (m ∷ n ∷ o ∷ p ∷ []) ∷ [])
      ≡ a * det₃ f g h j k l n o p - b * det₃ e g h i k l m o p + c * det₃ e f h i j l m n p - d * det₃ e f g i j k m n o
  unfolding det sum sign without
  det_four a b c d e f g h i j k l m n o p =
      first_four a b c d _ _ _ _
      ∙ (λ z. a * det_three f g h j k l n o p z - b * det_three e g h i k l m o p z + c * det_three e f h i j l m n p z - d * det_three e f g i j k m n o z)

  sign_even : (n : ℕ) → sign K (2 *ℕ n) ≡ 𝟙
  unfolding sign
  sign_even zero = refl
  sign_even (suc n) = let e : 2 *ℕ suc n ≡ suc (suc (2 *ℕ n)) = omega arith in ap (sign K) e ∙ neg_neg K _ ∙ sign_even n

  pub plus : (n : ℕ) {x y : R} → x ≡ y → sign K (2 *ℕ n) * x ≡ y
  plus n e = ap₂ ◌*◌ (sign_even n) e ∙ one-mul K _

  pub minus : (n : ℕ) {x y : R} → x ≡ y → sign K (suc (2 *ℕ n)) * x ≡ neg y
  unfolding sign
  minus n e = neg_mul K _ _ ∙ ap neg (plus n e)

  pub adjugate_one : (a : R) → adjugate K 1 ((a ∷ []) ∷ []) ≡ (𝟙 ∷ []) ∷ []
  unfolding adjugate row det
  adjugate_one a = λ z. (plus 0 {x = 𝟙} refl z ∷ []) ∷ []

  pub adjugate_two : (a b c d : R) → adjugate K 2 ((a ∷ b ∷ []) ∷ (c ∷ d ∷ []) ∷ []) ≡ (d ∷ neg b ∷ []) ∷ (neg c ∷ a ∷ []) ∷ []
  unfolding adjugate row without
  adjugate_two a b c d = λ z. (plus 0 (det_one d) z ∷ minus 0 (det_one b) z ∷ []) ∷ (minus 0 (det_one c) z ∷ plus 1 (det_one a) z ∷ []) ∷ []

  pub adjugate_four : (a b c d e f g h i j k l m n o p : R)
      → adjugate K 4 ((a ∷ b ∷ c ∷ d ∷ []) ∷ (e ∷ f ∷ g ∷ h ∷ []) ∷ (i ∷ j ∷ k ∷ l ∷ []) ∷ (m ∷ n ∷ o ∷ p ∷ []) ∷ [])
      ≡ (det₃ f g h j k l n o p ∷ neg (det₃ b c d j k l n o p) ∷ det₃ b c d f g h n o p ∷ neg (det₃ b c d f g h j k l) ∷ [])
      ∷ (neg (det₃ e g h i k l m o p) ∷ det₃ a c d i k l m o p ∷ neg (det₃ a c d e g h m o p) ∷ det₃ a c d e g h i k l ∷ [])
      ∷ (det₃ e f h i j l m n p ∷ neg (det₃ a b d i j l m n p) ∷ det₃ a b d e f h m n p ∷ neg (det₃ a b d e f h i j l) ∷ [])
      ∷ (neg (det₃ e f g i j k m n o) ∷ det₃ a b c i j k m n o ∷ neg (det₃ a b c e f g m n o) ∷ det₃ a b c e f g i j k ∷ []) ∷ []
  unfolding adjugate row without
  adjugate_four a b c d e f g h i j k l m n o p =
      let t = det_three in
      λ z. (plus 0 (t f g h j k l n o p) z ∷ minus 0 (t b c d j k l n o p) z ∷ plus 1 (t b c d f g h n o p) z ∷ minus 1 (t b c d f g h j k l) z ∷ [])
      ∷ (minus 0 (t e g h i k l m o p) z ∷ plus 1 (t a c d i k l m o p) z ∷ minus 1 (t a c d e g h m o p) z ∷ plus 2 (t a c d e g h i k l) z ∷ [])
      ∷ (plus 1 (t e f h i j l m n p) z ∷ minus 1 (t a b d i j l m n p) z ∷ plus 2 (t a b d e f h m n p) z ∷ minus 2 (t a b d e f h i j l) z ∷ [])
      ∷ (minus 1 (t e f g i j k m n o) z ∷ plus 2 (t a b c i j k m n o) z ∷ minus 2 (t a b c e f g m n o) z ∷ plus 3 (t a b c e f g i j k) z ∷ []) ∷ []
