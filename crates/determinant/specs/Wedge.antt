-- Alternating forms, for the proofs only: a coefficient for each set of columns, a set as one flag for each column. The determinant is
-- the coefficient of all columns in the product of the rows; in this product two equal rows give 0. Assumes nothing.
use Rattle.std.specs.Prelude.{◌≡◌, Bool, true, false, length}
use Rattle.std.proofs.Math.Path.{refl, sym, ap, ap₂}
use Rattle.std.proofs.Common.{◌∙◌, arith}
use mathlib.Core.List.{List, [], ◌∷◌}
use Prim.Native.Nat.{ℕ, zero, suc}
use Rattle.std.proofs.Math.Nat.{suc_inj}
use Rattle.algebra.specs.Ring.{Ring, zero-mul, neg_zero, sub_zero}
use Rattle.algebra.specs.Algebra.{algebra, quote}
use Rattle.algebra.specs.Lists.{zip}
use Rattle.algebra.specs.Vector.{vectors}

module _ (K : Ring) where
  infixl 65 ◌+◌
  infixl 65 ◌-◌
  infixl 70 ◌*◌
  infixl 66 ◌⊕◌
  infixr 71 ◌⊛◌
  open K use {R, ◌+◌, ◌*◌, ◌-◌, neg, 𝟘, 𝟙}
  open vectors K use {◌⊕◌, ◌⊛◌, zeros}

  abbrev pub Form : Type 0
  Form = List Bool → R

  -- the form 1: the empty set alone
  unfoldable pub unit : Form
  unit [] = 𝟙
  unit (false ∷ s) = unit s
  unit (true ∷ s) = 𝟘

  -- the vector v times the form ω
  unfoldable pub wedge : List R → Form → Form
  wedge [] ω s = 𝟘
  wedge (x ∷ v) ω [] = 𝟘
  wedge (x ∷ v) ω (false ∷ s) = wedge v (λ t. ω (false ∷ t)) s
  wedge (x ∷ v) ω (true ∷ s) = x * ω (false ∷ s) - wedge v (λ t. ω (true ∷ t)) s

  -- the product of the rows of a matrix
  unfoldable pub wedges : List (List R) → Form
  wedges [] = unit
  wedges (v ∷ A) = wedge v (wedges A)

  -- a value that depends on a form linearly
  abbrev pub Linear : (Form → R) → Type 0
  Linear f = (ω π : Form) (a b : R) → f (λ t. a * ω t + b * π t) ≡ a * f ω + b * f π

  at_scale : (a x : R) → a * x ≡ a * x + 𝟘 * x
  at_scale a x = algebra K (a ∷ x ∷ []) (search quote depth 20) refl

  at_sum : (x y : R) → x + y ≡ 𝟙 * x + 𝟙 * y
  at_sum x y = algebra K (x ∷ y ∷ []) (search quote depth 20) refl

  at_minus : (a x y : R) → a * x - y ≡ a * x + neg 𝟙 * y
  at_minus a x y = algebra K (a ∷ x ∷ y ∷ []) (search quote depth 20) refl

  module _ (f : Form → R) (linear : Linear f) where
    pub of_scale : (ω : Form) (a : R) → f (λ t. a * ω t) ≡ a * f ω
    of_scale ω a = ap f (λ i t. at_scale a (ω t) i) ∙ linear ω ω a 𝟘 ∙ sym (at_scale a (f ω))

    pub of_sum : (ω π : Form) → f (λ t. ω t + π t) ≡ f ω + f π
    of_sum ω π = ap f (λ i t. at_sum (ω t) (π t) i) ∙ linear ω π 𝟙 𝟙 ∙ sym (at_sum (f ω) (f π))

    pub of_minus : (ω π : Form) (a : R) → f (λ t. a * ω t - π t) ≡ a * f ω - f π
    of_minus ω π a = ap f (λ i t. at_minus a (ω t) (π t) i) ∙ linear ω π a (neg 𝟙) ∙ sym (at_minus a (f ω) (f π))

    pub of_zero : f (λ t. 𝟘) ≡ 𝟘
    of_zero = ap f (λ i t. sym (zero-mul K 𝟘) i) ∙ of_scale (λ t. 𝟘) 𝟘 ∙ zero-mul K _

  pub wedge_ext : (v : List R) {ω π : Form} (s : List Bool) → ((t : List Bool) → ω t ≡ π t) → wedge v ω s ≡ wedge v π s
  wedge_ext v s h = ap (λ ω. wedge v ω s) (λ i t. h t i)

  none_both : (a b : R) → 𝟘 ≡ a * 𝟘 + b * 𝟘
  none_both a b = algebra K (a ∷ b ∷ []) (search quote depth 20) refl

  -- linear in the form
  in_form : (x a b p q y z : R) → x * (a * p + b * q) - (a * y + b * z) ≡ a * (x * p - y) + b * (x * q - z)
  in_form x a b p q y z = algebra K (x ∷ a ∷ b ∷ p ∷ q ∷ y ∷ z ∷ []) (search quote depth 20) refl

  pub wedge_linear : (v : List R) (s : List Bool) → Linear (λ ω. wedge v ω s)
  unfolding wedge
  wedge_linear [] s ω π a b = none_both a b
  wedge_linear (x ∷ v) [] ω π a b = none_both a b
  wedge_linear (x ∷ v) (false ∷ s) ω π a b = wedge_linear v s _ _ a b
  wedge_linear (x ∷ v) (true ∷ s) ω π a b = ap (λ y. x * (a * ω (false ∷ s) + b * π (false ∷ s)) - y) (wedge_linear v s _ _ a b) ∙ in_form x a b _ _ _ _

  pub wedge_zero : (v : List R) (s : List Bool) → wedge v (λ t. 𝟘) s ≡ 𝟘
  wedge_zero v s = of_zero (λ ω. wedge v ω s) (wedge_linear v s)

  minus : (v : List R) (s : List Bool) (ω π : Form) (a : R) → wedge v (λ t. a * ω t - π t) s ≡ a * wedge v ω s - wedge v π s
  minus v s = of_minus (λ ω. wedge v ω s) (wedge_linear v s)

  -- linear in the vector
  pub zeros_wedge : (n : ℕ) (ω : Form) (s : List Bool) → wedge (zeros n) ω s ≡ 𝟘
  unfolding wedge
  zeros_wedge zero ω s = refl
  zeros_wedge (suc n) ω [] = refl
  zeros_wedge (suc n) ω (false ∷ s) = zeros_wedge n _ s
  zeros_wedge (suc n) ω (true ∷ s) = ap₂ ◌-◌ (zero-mul K _) (zeros_wedge n _ s) ∙ sub_zero K 𝟘

  in_vector : (x y a p q r : R) → (a * x + y) * p - (a * q + r) ≡ a * (x * p - q) + (y * p - r)
  in_vector x y a p q r = algebra K (x ∷ y ∷ a ∷ p ∷ q ∷ r ∷ []) (search quote depth 20) refl

  none_first : (a : R) → 𝟘 ≡ a * 𝟘 + 𝟘
  none_first a = algebra K (a ∷ []) (search quote depth 20) refl

  pub linear_wedge : (a : R) (u v : List R) (ω : Form) (s : List Bool) → length u ≡ length v → wedge (a ⊛ u ⊕ v) ω s ≡ a * wedge u ω s + wedge v ω s
  unfolding wedge zip
  linear_wedge a [] [] ω s e = none_first a
  linear_wedge a [] (y ∷ v) ω s e = absurd (omega arith)
  linear_wedge a (x ∷ u) [] ω s e = absurd (omega arith)
  linear_wedge a (x ∷ u) (y ∷ v) ω [] e = none_first a
  linear_wedge a (x ∷ u) (y ∷ v) ω (false ∷ s) e = linear_wedge a u v _ s (suc_inj e)
  linear_wedge a (x ∷ u) (y ∷ v) ω (true ∷ s) e =
      ap (λ z. (a * x + y) * ω (false ∷ s) - z) (linear_wedge a u v _ s (suc_inj e)) ∙ in_vector x y a _ _ _

  -- a vector times itself is 0
  both : (x p : R) → x * p - (x * p - 𝟘) ≡ 𝟘
  both x p = algebra K (x ∷ p ∷ []) (search quote depth 20) refl

  pub twice : (v : List R) (ω : Form) (s : List Bool) → wedge v (wedge v ω) s ≡ 𝟘
  unfolding wedge
  twice [] ω s = refl
  twice (x ∷ v) ω [] = refl
  twice (x ∷ v) ω (false ∷ s) = twice v _ s
  twice (x ∷ v) ω (true ∷ s) =
      ap (λ y. x * wedge v (λ t. ω (false ∷ t)) s - y) (minus v s _ _ x ∙ ap (λ y. x * wedge v (λ t. ω (false ∷ t)) s - y) (twice v _ s)) ∙ both x _

  -- two vectors exchanged change the sign
  crossed : (x y p q r : R) → x * p - (y * q - neg r) ≡ neg (y * q - (x * p - r))
  crossed x y p q r = algebra K (x ∷ y ∷ p ∷ q ∷ r ∷ []) (search quote depth 20) refl

  pub exchanged : (u v : List R) (ω : Form) (s : List Bool) → length u ≡ length v → wedge u (wedge v ω) s ≡ neg (wedge v (wedge u ω) s)
  unfolding wedge
  exchanged [] [] ω s e = sym (neg_zero K)
  exchanged [] (y ∷ v) ω s e = absurd (omega arith)
  exchanged (x ∷ u) [] ω s e = absurd (omega arith)
  exchanged (x ∷ u) (y ∷ v) ω [] e = sym (neg_zero K)
  exchanged (x ∷ u) (y ∷ v) ω (false ∷ s) e = exchanged u v _ s (suc_inj e)
  exchanged (x ∷ u) (y ∷ v) ω (true ∷ s) e =
      let p = wedge v (λ t. ω (false ∷ t)) s in
      let q = wedge u (λ t. ω (false ∷ t)) s in
      ap (λ z. x * p - z) (minus u s _ _ y ∙ ap (λ z. y * q - z) (exchanged u v _ s (suc_inj e)))
      ∙ crossed x y p q _ ∙ ap (λ z. neg (y * q - z)) (sym (minus v s _ _ x))
