-- The determinant is the coefficient of all columns in the product of the rows: that coefficient is expanded along the first row. A row moved
-- to the front, and a row that stands twice. Assumes nothing.
use Rattle.std.specs.Prelude.{◌≡◌, Bool, false, length}
use Rattle.std.proofs.Math.Path.{refl, sym, ap}
use Rattle.std.proofs.Common.{◌∙◌, arith}
use Rattle.std.proofs.Math.Bool.{true}
use mathlib.Core.List.{List, [], ◌∷◌, map}
use Prim.Native.Nat.{ℕ, zero, suc, ◌<◌}
use Rattle.std.proofs.Math.Nat.{suc_inj}
use Rattle.std.proofs.Math.ListN.{get_or, replicate}
use Rattle.std.proofs.lemmas.List.{length-map}
use Rattle.algebra.specs.Ring.{Ring, one-mul, mul-zero, mul_neg, neg_mul}
use Rattle.algebra.specs.Algebra.{algebra, quote}
use Rattle.algebra.specs.Matrix.{Wide, wide_map}
use Rattle.algebra.specs.Sums.{sum, sum_ext, sum_scale, sum_cons}
use Rattle.determinant.specs.Determinant.{without, sign, det}
use Rattle.determinant.specs.Places.{length_without, wide_without, wide_at, found}
use Rattle.determinant.specs.Wedge.{Form, unit, wedge, wedges, of_scale, wedge_ext, wedge_linear, twice, exchanged}

-- the set s with a column more, at place j, that is not in it
unfoldable spare : ℕ → List Bool → List Bool
spare zero s = false ∷ s
spare (suc j) [] = []
spare (suc j) (b ∷ s) = b ∷ spare j s

module _ (K : Ring) where
  infixl 65 ◌+◌
  infixl 65 ◌-◌
  infixl 70 ◌*◌
  open K use {R, ◌+◌, ◌*◌, ◌-◌, neg, 𝟘, 𝟙}

  -- coefficients that lack column j do not see it
  wedge_spare : (j : ℕ) (v : List R) (ω : Form K) (s : List Bool) → wedge K v ω (spare j s) ≡ wedge K (without j v) (λ t. ω (spare j t)) s
  unfolding wedge spare without
  wedge_spare j [] ω s = refl
  wedge_spare zero (x ∷ v) ω s = refl
  wedge_spare (suc j) (x ∷ v) ω [] = refl
  wedge_spare (suc j) (x ∷ v) ω (false ∷ s) = wedge_spare j v _ s
  wedge_spare (suc j) (x ∷ v) ω (true ∷ s) = ap (λ y. x * ω (false ∷ spare j s) - y) (wedge_spare j v _ s)

  unit_spare : (j : ℕ) (s : List Bool) → unit K (spare j s) ≡ unit K s
  unfolding unit spare
  unit_spare zero s = refl
  unit_spare (suc j) [] = refl
  unit_spare (suc j) (false ∷ s) = unit_spare j s
  unit_spare (suc j) (true ∷ s) = refl

  wedges_spare : (j : ℕ) (A : List (List R)) (s : List Bool) → wedges K A (spare j s) ≡ wedges K (map (without j) A) s
  unfolding wedges
  wedges_spare j [] s = unit_spare j s
  wedges_spare j (v ∷ A) s = wedge_spare j v _ s ∙ wedge_ext K (without j v) s (wedges_spare j A)

  first_term : (x p : R) → x * p - 𝟘 ≡ 𝟘 + 𝟙 * x * p
  first_term x p = algebra K (x ∷ p ∷ []) (search quote depth 20) refl

  other_terms : (x p q : R) → x * p - q ≡ 𝟙 * x * p + neg 𝟙 * q
  other_terms x p q = algebra K (x ∷ p ∷ q ∷ []) (search quote depth 20) refl

  next_term : (s x p : R) → neg 𝟙 * (s * x * p) ≡ neg s * x * p
  next_term s x p = algebra K (s ∷ x ∷ p ∷ []) (search quote depth 20) refl

  -- a vector times a form, at all columns: the sum over the places of the vector
  wedge_full : (k : ℕ) (v : List R) (ω : Form K) → length v ≡ suc k
      → wedge K v ω (replicate (suc k) true) ≡ sum K (suc k) (λ j. sign K j * get_or v j 𝟘 * ω (spare j (replicate k true)))
  unfolding wedge sum sign spare
  wedge_full k [] ω e = absurd (omega arith)
  wedge_full zero (x ∷ []) ω e = first_term x _
  wedge_full zero (x ∷ y ∷ v) ω e = absurd (omega arith)
  wedge_full (suc k) (x ∷ v) ω e =
      let f : ℕ → R = λ j. sign K j * get_or v j 𝟘 * ω (true ∷ spare j (replicate k true)) in
      ap (λ y. x * ω (false ∷ true ∷ replicate k true) - y) (wedge_full k v _ (suc_inj e)) ∙ other_terms x _ _
      ∙ ap (λ y. 𝟙 * x * ω (false ∷ true ∷ replicate k true) + y)
      (sym (sum_scale K (suc k) (neg 𝟙) f) ∙ sum_ext K (suc k) _ _ (λ j h. next_term (sign K j) (get_or v j 𝟘) _))
      ∙ sym (sum_cons K (suc k) _)

  -- the determinant is the coefficient of all columns
  pub det_wedges : (k : ℕ) (A : List (List R)) → length A ≡ k → Wide k A → det K k A ≡ wedges K A (replicate k true)
  unfolding det wedges unit without
  det_wedges zero [] e w = refl
  det_wedges zero (v ∷ A) e w = absurd (omega arith)
  det_wedges (suc k) [] e w = absurd (omega arith)
  det_wedges (suc k) (v ∷ A) e w =
      sum_ext K (suc k) _ _ (λ j h. ap (λ x. sign K j * get_or v j 𝟘 * x)
      (det_wedges k (map (without j) A) (length-map A (without j) ∙ suc_inj e) (wide_map (suc k) k (without j) (λ r l. length_without j k r l h) A w.1)
      ∙ sym (wedges_spare j A (replicate k true))))
      ∙ sym (wedge_full k v (wedges K A) w.0)

  -- row i moved to the front
  pub front : (n i : ℕ) (A : List (List R)) (s : List Bool) → i < length A → Wide n A
      → wedges K A s ≡ sign K i * wedge K (get_or A i []) (wedges K (without i A)) s
  unfolding wedges sign without
  front n i [] s h w = absurd (omega arith)
  front n zero (v ∷ A) s h w = sym (one-mul K _)
  front n (suc i) (v ∷ A) s h w =
      let r = get_or A i [] in
      wedge_ext K v s (λ t. front n i A t (omega arith) w.1) ∙ of_scale K (λ ω. wedge K v ω s) (wedge_linear K v s) _ (sign K i)
      ∙ ap (λ x. sign K i * x) (exchanged K v r _ s (w.0 ∙ sym (wide_at n A w.1 i (omega arith)))) ∙ mul_neg K _ _ ∙ sym (neg_mul K _ _)

  -- a row that stands in the matrix already
  repeated : (n i : ℕ) (A : List (List R)) (s : List Bool) → i < length A → Wide n A → wedge K (get_or A i []) (wedges K A) s ≡ 𝟘
  repeated n i A s h w =
      let r = get_or A i [] in
      wedge_ext K r s (λ t. front n i A t h w) ∙ of_scale K (λ ω. wedge K r ω s) (wedge_linear K r s) _ (sign K i)
      ∙ ap (λ x. sign K i * x) (twice K r _ s) ∙ mul-zero K _

  -- another row than row c in place of it
  pub other : (n i c : ℕ) (A : List (List R)) (s : List Bool) → i < length A → (i ≡ c → ⊥) → Wide n A
      → wedge K (get_or A i []) (wedges K (without c A)) s ≡ 𝟘
  other n i c A s h d w =
      let f = found i c A h d in
      ap (λ r. wedge K r (wedges K (without c A)) s) (sym f.2) ∙ repeated n f.0 (without c A) s f.1 (wide_without n c A w)
