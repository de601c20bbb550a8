-- The image of a form under a matrix. The product of the rows of A M is that of the rows of M, times the coefficient of all columns in that of the
-- rows of A. Assumes nothing.
use Rattle.std.specs.Prelude.{◌≡◌, Bool, false, ◌⊎◌, replicate}
use Rattle.std.proofs.Math.Path.{refl, sym, ap, ap₂, subst⁻¹}
use Rattle.std.proofs.Common.{◌∙◌, arith}
use Rattle.std.proofs.Math.Bool.{true}
use Rattle.std.proofs.Math.Logic.{inl, inr}
use mathlib.Core.List.{List, [], ◌∷◌}
use Prim.Native.Nat.{ℕ, zero, suc, ◌<◌, ◌≤◌}
use Rattle.std.proofs.Math.Nat.{suc_inj}
use Rattle.std.proofs.Math.ListN.{length}
use Rattle.algebra.specs.Ring.{Ring, zero-mul, mul-zero, zero-add, one-mul}
use Rattle.algebra.specs.Algebra.{algebra, quote}
use Rattle.algebra.specs.Matrix.{Wide, times, length_times}
use Rattle.determinant.specs.Inverse.{product}
use Rattle.determinant.specs.Wedge.{Form, unit, wedge, wedges, Linear, of_scale, of_sum, of_minus, of_zero, wedge_ext, wedge_zero, wedge_linear, zeros_wedge, linear_wedge, twice, exchanged}

-- how many columns a set has
unfoldable size : List Bool → ℕ
size [] = 0
size (false ∷ s) = size s
size (true ∷ s) = suc (size s)

size_le : (s : List Bool) → size s ≤ length s
unfolding size
size_le [] = omega arith
size_le (false ∷ s) = omega (arith, size_le s)
size_le (true ∷ s) = omega (arith, size_le s)

module _ (K : Ring) where
  infixl 65 ◌+◌
  infixl 65 ◌-◌
  infixl 70 ◌*◌
  open K use {R, ◌+◌, ◌*◌, ◌-◌, neg, 𝟘, 𝟙}

  -- the form that the matrix makes of ω: row i for column i
  unfoldable image : List (List R) → Form K → Form K
  image [] ω s = ω [] * unit K s
  image (m ∷ M) ω s = image M (λ t. ω (false ∷ t)) s + wedge K m (image M (λ t. ω (true ∷ t))) s

  at_none : (a b p q u : R) → (a * p + b * q) * u ≡ a * (p * u) + b * (q * u)
  at_none a b p q u = algebra K (a ∷ b ∷ p ∷ q ∷ u ∷ []) (search quote depth 20) refl

  at_row : (a b p q x y : R) → a * p + b * q + (a * x + b * y) ≡ a * (p + x) + b * (q + y)
  at_row a b p q x y = algebra K (a ∷ b ∷ p ∷ q ∷ x ∷ y ∷ []) (search quote depth 20) refl

  image_linear : (M : List (List R)) (s : List Bool) → Linear K (λ ω. image M ω s)
  unfolding image
  image_linear [] s ω π a b = at_none a b _ _ _
  image_linear (m ∷ M) s ω π a b =
      ap₂ ◌+◌ (image_linear M s _ _ a b) (wedge_ext K m s (λ t. image_linear M t _ _ a b) ∙ wedge_linear K m s _ _ a b) ∙ at_row a b _ _ _ _

  regroup : (x p q r : R) → p + (x * q - r) ≡ x * (q + 𝟘) + (p + neg r)
  regroup x p q r = algebra K (x ∷ p ∷ q ∷ r ∷ []) (search quote depth 20) refl

  -- the image of v times ω is v M times the image of ω
  image_wedge : (n : ℕ) (v : List R) (M : List (List R)) (ω : Form K) (s : List Bool) → length v ≡ length M → Wide n M
      → image M (wedge K v ω) s ≡ wedge K (times K n v M) (image M ω) s
  unfolding image wedge times
  image_wedge n [] [] ω s e w = zero-mul K _ ∙ sym (zeros_wedge K n _ s)
  image_wedge n [] (m ∷ M) ω s e w = absurd (omega arith)
  image_wedge n (x ∷ v) [] ω s e w = absurd (omega arith)
  image_wedge n (x ∷ v) (m ∷ M) ω s e w =
      let u = times K n v M in
      let F : Form K = image M (λ t. ω (false ∷ t)) in
      let T : Form K = image M (λ t. ω (true ∷ t)) in
      let at : (t : List Bool) (π : Form K) → image M (wedge K v π) t ≡ wedge K u (image M π) t = λ t π. image_wedge n v M π t (suc_inj e) w.1 in
      let l : length m ≡ length u = w.0 ∙ sym (length_times K n v M w.1) in
      ap₂ ◌+◌ (at s _)
      (wedge_ext K m s (λ t. of_minus K (λ ρ. image M ρ t) (image_linear M t) _ _ x ∙ ap (λ y. x * F t - y) (at t _))
      ∙ of_minus K (λ ρ. wedge K m ρ s) (wedge_linear K m s) F _ x)
      ∙ regroup x _ _ _
      ∙ ap₂ (λ y z. x * (wedge K m F s + y) + (wedge K u F s + z)) (sym (twice K m T s)) (sym (exchanged K u m T s (sym l)))
      ∙ sym (linear_wedge K x m u _ s l
      ∙ ap₂ (λ y z. x * y + z) (of_sum K (λ ρ. wedge K m ρ s) (wedge_linear K m s) F _) (of_sum K (λ ρ. wedge K u ρ s) (wedge_linear K u s) F _))

  -- the image depends on the sets of its rows only
  image_ext : (M : List (List R)) {ω π : Form K} (s : List Bool) → ((t : List Bool) → length t ≡ length M → ω t ≡ π t) → image M ω s ≡ image M π s
  unfolding image
  image_ext [] s h = ap (λ x. x * unit K s) (h [] refl)
  image_ext (m ∷ M) s h =
      ap₂ ◌+◌ (image_ext M s (λ t e. h (false ∷ t) (ap suc e))) (wedge_ext K m s (λ r. image_ext M r (λ t e. h (true ∷ t) (ap suc e))))

  image_zero : (M : List (List R)) (s : List Bool) → image M (λ t. 𝟘) s ≡ 𝟘
  image_zero M s = of_zero K (λ ω. image M ω s) (image_linear M s)

  image_unit : (M : List (List R)) (s : List Bool) → image M (unit K) s ≡ unit K s
  unfolding image unit
  image_unit [] s = one-mul K _
  image_unit (m ∷ M) s = ap₂ ◌+◌ (image_unit M s) (wedge_ext K m s (image_zero M) ∙ wedge_zero K m s) ∙ K.add-zero _

  -- the image of the product of A's rows is the product of the rows of A M
  image_wedges : (n : ℕ) (A M : List (List R)) (s : List Bool) → Wide (length M) A → Wide n M → image M (wedges K A) s ≡ wedges K (product K n A M) s
  unfolding wedges product
  image_wedges n [] M s v w = image_unit M s
  image_wedges n (r ∷ A) M s v w = image_wedge n r M (wedges K A) s v.0 w ∙ wedge_ext K (times K n r M) s (λ t. image_wedges n A M t v.1 w)

  -- the form of all columns
  unfoldable full : Form K
  full [] = 𝟙
  full (false ∷ s) = 𝟘
  full (true ∷ s) = full s

  image_full : (M : List (List R)) (s : List Bool) → image M full s ≡ wedges K M s
  unfolding image full wedges
  image_full [] s = one-mul K _
  image_full (m ∷ M) s = ap₂ ◌+◌ (image_zero M s) (wedge_ext K m s (image_full M)) ∙ zero-add K _

  -- a product of d rows has coefficients of sets of d columns only
  abbrev Degree : ℕ → Form K → Type 0
  Degree d ω = (s : List Bool) → (size s ≡ d → ⊥) → ω s ≡ 𝟘

  degree_unit : Degree 0 (unit K)
  unfolding size unit
  degree_unit [] n = absurd (n refl)
  degree_unit (false ∷ s) n = degree_unit s n
  degree_unit (true ∷ s) n = refl

  vanish : {x p q : R} → p ≡ 𝟘 → q ≡ 𝟘 → x * p - q ≡ 𝟘
  vanish {x} e f = ap₂ (λ y z. x * y - z) e f ∙ algebra K (x ∷ []) (search quote depth 20) refl

  degree_wedge : (d : ℕ) (v : List R) (ω : Form K) → Degree d ω → Degree (suc d) (wedge K v ω)
  unfolding size wedge
  degree_wedge d [] ω h s n = refl
  degree_wedge d (x ∷ v) ω h [] n = refl
  degree_wedge d (x ∷ v) ω h (false ∷ s) n = degree_wedge d v _ (λ t. h (false ∷ t)) s n
  degree_wedge zero (x ∷ v) ω h (true ∷ s) n =
      vanish (h (false ∷ s) (λ e. n (ap suc e))) (wedge_ext K v s (λ t. h (true ∷ t) (λ e. omega arith)) ∙ wedge_zero K v s)
  degree_wedge (suc d) (x ∷ v) ω h (true ∷ s) n =
      vanish (h (false ∷ s) (λ e. n (ap suc e))) (degree_wedge d v _ (λ t k. h (true ∷ t) (λ e. k (suc_inj e))) s (λ e. n (ap suc e)))

  degree_wedges : (A : List (List R)) → Degree (length A) (wedges K A)
  unfolding wedges
  degree_wedges [] = degree_unit
  degree_wedges (v ∷ A) = degree_wedge (length A) v (wedges K A) (degree_wedges A)

  -- a set is all columns, or has fewer
  abbrev AllOrFew : List Bool → Type 0
  AllOrFew s = ((s ≡ replicate (length s) true) × (full s ≡ 𝟙)) ⊎ ((size s < length s) × (full s ≡ 𝟘))

  all_or_few : (s : List Bool) → AllOrFew s
  unfolding full size
  all_or_few [] = inl (refl, refl)
  all_or_few (false ∷ s) = inr (omega (arith, size_le s), refl)
  all_or_few (true ∷ s) = go (all_or_few s)
    where
      go : AllOrFew s → AllOrFew (true ∷ s)
      go (inl h) = inl (ap (λ t. true ∷ t) h.0, h.1)
      go (inr h) = inr (omega (arith, h.0), h.1)

  -- of k rows, among the sets of k columns: their product has the coefficient of all columns, and no other
  only_full : (k : ℕ) (A : List (List R)) → length A ≡ k → (s : List Bool) → length s ≡ k → wedges K A s ≡ wedges K A (replicate k true) * full s
  only_full k A a s e = go (all_or_few s)
    where
      go : AllOrFew s → wedges K A s ≡ wedges K A (replicate k true) * full s
      go (inl h) = ap (wedges K A) (h.0 ∙ ap (λ n. replicate n true) e) ∙ sym (K.mul-one _) ∙ ap (λ x. wedges K A (replicate k true) * x) (sym h.1)
      go (inr h) = degree_wedges A s (λ z. omega (arith, h.0)) ∙ sym (mul-zero K _) ∙ ap (λ x. wedges K A (replicate k true) * x) (sym h.1)

  -- the product of the rows of A M
  pub multiplicative : (n k : ℕ) (A M : List (List R)) → length A ≡ k → length M ≡ k → Wide k A → Wide n M → (s : List Bool)
      → wedges K (product K n A M) s ≡ wedges K A (replicate k true) * wedges K M s
  multiplicative n k A M a m v w s =
      sym (image_wedges n A M s (subst⁻¹ (λ j. Wide j A) m v) w) ∙ image_ext M s (λ t e. only_full k A a t (e ∙ m))
      ∙ of_scale K (λ ω. image M ω s) (image_linear M s) full _ ∙ ap (λ x. wedges K A (replicate k true) * x) (image_full M s)
