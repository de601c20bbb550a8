-- The pairs over a ring are a ring, and over a field in which -1 is no square they are a field. Assumes nothing.
use Rattle.std.specs.Prelude.{◌≡◌, refl, List, [], ◌∷◌}
use Rattle.std.proofs.Common.{ap, ◌∙◌}
use Rattle.algebra.specs.Ring.{Ring}
use Rattle.algebra.specs.Field.{Field}
use Rattle.algebra.specs.Algebra.{algebra, quote, from₁, from₂}
use Rattle.pairs.specs.Pair.{Pair, real, add_p, sub_p, neg_p, mul_p, norm, inv_p, NoRoot}

pub pair_path : {A : Type 0} {x y : Pair A} → x.re ≡ y.re → x.im ≡ y.im → x ≡ y
pair_path p q = λ i. record { re = p i; im = q i }

module _ (K : Ring) where
  open K use {R, 𝟘, 𝟙}

  abbrev atoms : Pair R → Pair R → Pair R → List R
  atoms x y z = x.re ∷ x.im ∷ y.re ∷ y.im ∷ z.re ∷ z.im ∷ []

  pub add_assoc_p : (x y z : Pair R) → add_p K (add_p K x y) z ≡ add_p K x (add_p K y z)
  unfolding add_p
  add_assoc_p x y z = pair_path (algebra K (atoms x y z) (search quote depth 20) refl) (algebra K (atoms x y z) (search quote depth 20) refl)

  pub add_comm_p : (x y : Pair R) → add_p K x y ≡ add_p K y x
  unfolding add_p
  add_comm_p x y = pair_path (algebra K (atoms x y y) (search quote depth 20) refl) (algebra K (atoms x y y) (search quote depth 20) refl)

  pub add_zero_p : (x : Pair R) → add_p K x (real K 𝟘) ≡ x
  unfolding add_p
  add_zero_p x = pair_path (algebra K (atoms x x x) (search quote depth 20) refl) (algebra K (atoms x x x) (search quote depth 20) refl)

  pub add_neg_p : (x : Pair R) → add_p K x (neg_p K x) ≡ real K 𝟘
  unfolding add_p neg_p
  add_neg_p x = pair_path (algebra K (atoms x x x) (search quote depth 20) refl) (algebra K (atoms x x x) (search quote depth 20) refl)

  pub sub_def_p : (x y : Pair R) → sub_p K x y ≡ add_p K x (neg_p K y)
  unfolding add_p neg_p sub_p
  sub_def_p x y = pair_path (algebra K (atoms x y y) (search quote depth 20) refl) (algebra K (atoms x y y) (search quote depth 20) refl)

  pub mul_assoc_p : (x y z : Pair R) → mul_p K (mul_p K x y) z ≡ mul_p K x (mul_p K y z)
  unfolding mul_p
  mul_assoc_p x y z = pair_path (algebra K (atoms x y z) (search quote depth 20) refl) (algebra K (atoms x y z) (search quote depth 20) refl)

  pub mul_comm_p : (x y : Pair R) → mul_p K x y ≡ mul_p K y x
  unfolding mul_p
  mul_comm_p x y = pair_path (algebra K (atoms x y y) (search quote depth 20) refl) (algebra K (atoms x y y) (search quote depth 20) refl)

  pub mul_one_p : (x : Pair R) → mul_p K x (real K 𝟙) ≡ x
  unfolding mul_p
  mul_one_p x = pair_path (algebra K (atoms x x x) (search quote depth 20) refl) (algebra K (atoms x x x) (search quote depth 20) refl)

  pub mul_add_p : (x y z : Pair R) → mul_p K x (add_p K y z) ≡ add_p K (mul_p K x y) (mul_p K x z)
  unfolding mul_p add_p
  mul_add_p x y z = pair_path (algebra K (atoms x y z) (search quote depth 20) refl) (algebra K (atoms x y z) (search quote depth 20) refl)

  abbrev pub pair_ring : Ring
  pair_ring = record {
    R = Pair R;
    ◌+◌ = add_p K;
    ◌*◌ = mul_p K;
    ◌-◌ = sub_p K;
    neg = neg_p K;
    𝟘 = real K 𝟘;
    𝟙 = real K 𝟙;
    add_assoc = add_assoc_p;
    add_comm = add_comm_p;
    add-zero = add_zero_p;
    add_neg = add_neg_p;
    sub_def = sub_def_p;
    mul_assoc = mul_assoc_p;
    mul_comm = mul_comm_p;
    mul-one = mul_one_p;
    mul-add = mul_add_p;
  }

module _ (F : Field) (no_root : NoRoot F) where
  infixl 65 ◌+◌
  infixl 65 ◌-◌
  infixl 70 ◌*◌
  open F use {ring as K, inv, mul_inv, apart, eq?}
  open K use {R, ◌+◌, ◌*◌, ◌-◌, neg, 𝟘, 𝟙, add_comm}

  -- a sum of two squares is 0 only where both are: else the quotient is a root of -1
  squares : (a b : R) → a * a + b * b ≡ 𝟘 → b ≡ 𝟘
  squares a b e = go (eq? b 𝟘)
    where
      go : Dec (b ≡ 𝟘) → b ≡ 𝟘
      go (yes z) = z
      go (no n) =
          absurd (no_root (a * inv b)
          (from₂ K (inv b * inv b) e (neg (b * inv b) - 𝟙) (mul_inv b n)
          (algebra K (a ∷ b ∷ inv b ∷ []) (search quote depth 20) refl)))

  norm_apart : (x : Pair R) → (x ≡ real K 𝟘 → ⊥) → norm K x ≡ 𝟘 → ⊥
  norm_apart x n e = n (pair_path (squares x.im x.re (add_comm _ _ ∙ e)) (squares x.re x.im e))

  pub mul_inv_p : (x : Pair R) → (x ≡ real K 𝟘 → ⊥) → mul_p K x (inv_p F x) ≡ real K 𝟙
  unfolding mul_p inv_p
  mul_inv_p x n =
      pair_path
      (from₁ K 𝟙 (mul_inv (norm K x) (norm_apart x n)) (algebra K (x.re ∷ x.im ∷ inv (norm K x) ∷ []) (search quote depth 20) refl))
      (algebra K (x.re ∷ x.im ∷ inv (norm K x) ∷ []) (search quote depth 20) refl)

  pub eq?P : (x y : Pair R) → Dec (x ≡ y)
  eq?P x y = go (eq? x.re y.re) (eq? x.im y.im)
    where
      go : Dec (x.re ≡ y.re) → Dec (x.im ≡ y.im) → Dec (x ≡ y)
      go (yes e) (yes f) = yes (pair_path e f)
      go (yes e) (no n) = no (λ f. n (ap (λ (z : Pair R). z.im) f))
      go (no n) d = no (λ e. n (ap (λ (z : Pair R). z.re) e))

  -- open: in statements its elements are seen as pairs
  abbrev pub square_field : Field
  square_field = record {
    ring = pair_ring K;
    inv = inv_p F;
    eq? = eq?P;
    apart = λ e. apart (ap (λ (x : Pair R). x.re) e);
    mul_inv = mul_inv_p;
  }
