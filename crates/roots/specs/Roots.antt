-- Roots of unity in a field: the half power, and a table of roots of the orders 2^k. Assumes nothing.
use Rattle.std.specs.Prelude.{◌≡◌}
use Rattle.std.proofs.Math.Path.{refl, sym, ap, ap₂, subst}
use Rattle.std.proofs.Common.{◌∙◌, ⊎_elim, zero-add, suc-add, pow_pos}
use mathlib.Core.List.{[], ◌∷◌}
use Prim.Native.Nat.{ℕ, zero, suc, ◌+◌ as ◌+ℕ◌, ◌*◌ as ◌*ℕ◌, ◌-◌ as ◌-ℕ◌, ◌^◌, ◌<◌, ◌≤◌}
use Rattle.std.proofs.Math.Nat.{pow-succ'}
use native.Mathlib.Omega.{arith}
use Rattle.algebra.specs.Ring.{one-mul}
use Rattle.algebra.specs.Numerals.{num}
use Rattle.algebra.specs.Field.{Field}
use Rattle.algebra.specs.Order.{lt_or_ge}
use Rattle.algebra.specs.Algebra.{algebra, quote, from₁, from₂}
use Rattle.foldable.specs.Line.{unit_difference}
use Rattle.roots.specs.RootCode.{pow, Order, Table}

module _ (F : Field) where
  infixl 65 ◌+◌
  infixl 65 ◌-◌
  infixl 70 ◌*◌
  open F use {ring as K, inv}
  open K use {R, ◌+◌, ◌*◌, ◌-◌, neg, 𝟘, 𝟙}

  pow-add : (x : R) (n m : ℕ) → pow K x (n +ℕ m) ≡ pow K x n * pow K x m
  unfolding pow
  pow-add x zero m = rw (zero-add m) (sym (one-mul K (pow K x m)))
  pow-add x (suc n) m = rw (suc-add n m) (ap (λ (y : R). x * y) (pow-add x n m) ∙ sym (K.mul_assoc x (pow K x n) (pow K x m)))

  pub pow_square : (x : R) (n : ℕ) → pow K (x * x) n ≡ pow K x n * pow K x n
  unfolding pow
  pow_square x zero = sym (K.mul-one 𝟙)
  pow_square x (suc n) = ap (λ (y : R). x * x * y) (pow_square x n) ∙ algebra K (x ∷ pow K x n ∷ []) (search quote depth 20) refl

  pub pow_even : (x : R) (n : ℕ) → pow K x (2 *ℕ n) ≡ pow K (x * x) n
  pow_even x n = ap (pow K x) (omega arith) ∙ pow-add x n n ∙ sym (pow_square x n)

  pub pow_odd : (x : R) (n : ℕ) → pow K x (1 +ℕ 2 *ℕ n) ≡ x * pow K (x * x) n
  unfolding pow
  pow_odd x n = let one : 1 +ℕ 2 *ℕ n ≡ suc (2 *ℕ n) = omega arith in ap (pow K x) one ∙ ap (λ (y : R). x * y) (pow_even x n)

  -- the half power of an element of even order is -1, since its square is 1 and it is not 1
  half_power : (x : R) (n : ℕ) → 0 < n → Order K x (2 *ℕ n) → pow K x n ≡ neg 𝟙
  half_power x n h o =
      let y = pow K x n in
      let unit : (y - 𝟙) * inv (y - 𝟙) ≡ 𝟙 = unit_difference F (λ e. o.least n h (omega arith) (sym e)) in
      from₂ K (neg (y + 𝟙)) unit (inv (y - 𝟙)) (sym (pow_square x n) ∙ sym (pow_even x n) ∙ o.power) (algebra K (y ∷ inv (y - 𝟙) ∷ []) (search quote depth 20) refl)

  -- so the powers from there on are the negatives of the first ones
  pub power_past : (x : R) (n : ℕ) → 0 < n → Order K x (2 *ℕ n) → (j : ℕ) → pow K x (n +ℕ j) ≡ neg (pow K x j)
  power_past x n h o j =
      pow-add x n j ∙ ap (λ (y : R). y * pow K x j) (half_power x n h o) ∙ algebra K (pow K x j ∷ []) (search quote depth 20) refl

  -- and no power is its own negative: a multiple of it is the half power
  pub opposite : (x : R) (n : ℕ) → Order K x (2 *ℕ n) → (j : ℕ) → j < n → pow K x j ≡ neg (pow K x j) → ⊥
  opposite x n o j h e =
      let y = pow K x j in
      let z = pow K x (n -ℕ j) in
      let half : pow K x n ≡ neg 𝟙 = half_power x n (omega arith) o in
      let whole : y * z ≡ pow K x n = sym (pow-add x j (n -ℕ j)) ∙ ap (pow K x) (omega arith) in
      o.least n (omega arith) (omega arith) (half ∙ from₂ K (neg (𝟙 + 𝟙)) (whole ∙ half) z e (algebra K (y ∷ z ∷ []) (search quote depth 20) refl))

  module _ (two : num K 2 ≡ 𝟘 → ⊥) where
    -- the order doubles from the square of x to x where the power that is 1 for the square is -1 for x
    order_double : (x : R) (n : ℕ) → pow K x n ≡ neg 𝟙 → Order K (x * x) n → Order K x (2 *ℕ n)
    order_double x n e o =
        record {
          power = pow_even x n ∙ o.power;
          least = λ k lo hi f. ⊎_elim (λ h. below k lo h f) (λ h. ⊎_elim (λ l. above k l hi f) (λ l. equal k h l f) (lt_or_ge n k)) (lt_or_ge k n);
        }
      where
        squared : (k : ℕ) (y : R) → y * y ≡ 𝟙 → pow K x k ≡ y → pow K (x * x) k ≡ 𝟙
        squared k y h f = pow_square x k ∙ ap₂ ◌*◌ f f ∙ h

        below : (k : ℕ) → 0 < k → k < n → pow K x k ≡ 𝟙 → ⊥
        below k lo h f = o.least k lo h (squared k 𝟙 (K.mul-one 𝟙) f)

        equal : (k : ℕ) → n ≤ k → k ≤ n → pow K x k ≡ 𝟙 → ⊥
        equal k h l f =
            let same : k ≡ n = omega arith in
            two (from₁ K 𝟙 (sym f ∙ ap (pow K x) same ∙ e) (algebra K [] (search quote depth 20) refl))

        above : (k : ℕ) → n < k → k < 2 *ℕ n → pow K x k ≡ 𝟙 → ⊥
        above k l hi f =
            let z = pow K x (k -ℕ n) in
            let whole : pow K x n * z ≡ 𝟙 = sym (pow-add x n (k -ℕ n)) ∙ ap (pow K x) (omega arith) ∙ f in
            let rest : z ≡ neg 𝟙 = from₂ K (neg 𝟙) whole z e (algebra K (pow K x n ∷ z ∷ []) (search quote depth 20) refl) in
            o.least (k -ℕ n) (omega arith) (omega arith) (squared (k -ℕ n) (neg 𝟙) (algebra K [] (search quote depth 20) refl) rest)

    module _ (b : ℕ) (root : ℕ → R) (t : Table F b root) where
      table_power : (k : ℕ) → k < b → Order K (root k) (2 ^ k) → pow K (root (suc k)) (2 ^ k) ≡ neg 𝟙
      unfolding pow
      table_power zero h o = K.mul-one (root 1) ∙ t.minus
      table_power (suc k) h o =
          let x = root (suc (suc k)) in
          ap (pow K x) (pow-succ' 2 k) ∙ pow_even x (2 ^ k) ∙ ap (λ (y : R). pow K y (2 ^ k)) (t.square (suc k) h)
          ∙ half_power (root (suc k)) (2 ^ k) (pow_pos k) (subst (Order K (root (suc k))) (pow-succ' 2 k) o)

      -- entry k of a table has the order 2^k
      pub table_order : (k : ℕ) → k ≤ b → Order K (root k) (2 ^ k)
      unfolding pow
      table_order zero h =
          let one : root 0 ≡ 𝟙 = sym (t.square 0 t.above) ∙ ap₂ ◌*◌ t.minus t.minus ∙ algebra K [] (search quote depth 20) refl in
          record { power = K.mul-one (root 0) ∙ one; least = λ k lo hi f. absurd (omega arith) }
      table_order (suc k) h =
          let o : Order K (root k) (2 ^ k) = table_order k (omega arith) in
          subst (Order K (root (suc k))) (sym (pow-succ' 2 k))
          (order_double (root (suc k)) (2 ^ k) (table_power k h o) (subst (λ (y : R). Order K y (2 ^ k)) (sym (t.square k h)) o))
