-- Modulo a number that is 3 modulo 4, as 2147483647 is, -1 is no square. Assumes nothing.
use Rattle.std.specs.Prelude.{◌≡◌, refl, ℕ, zero, suc, ◌+◌, ◌*◌, ◌-◌, ◌/◌, ◌%◌, ◌<◌, ◌≤◌}
use Rattle.std.proofs.Common.{sym, ap, ap₂, ◌∙◌, ⊎_elim, mod-lt, div-add-mod', mul-le-mul, add-mul, mul-add, mul_comm, le_refl, arith}
use Rattle.std.proofs.Math.Nat.{mod-add-mod, add-mul-mod_self_right, mul-mod_right}
use Rattle.std.proofs.Math.Decide.{ℕ_discrete}
use Rattle.algebra.specs.Field.{Field}
use Rattle.algebra.specs.Order.{lt_or_ge}
use Rattle.algebra.specs.Zmod.{mod_mul_mod, mul_mod_mod}
use Rattle.algebra.specs.WordLaws.{product_lt, is_word, el_mod}
use Rattle.algebra.specs.Words.{PrimeField, 𝔽₁}
use Rattle.algebra.specs.WordLists.{val_zero}
use Rattle.pairs.specs.Pair.{NoRoot}
use Rattle.pairs.specs.Square.{square_field}

-- Let n be 3 modulo 4 and divide a a + 1. One of a and -a, modulo n, is even; with that for a, the quotient is below n, is 3 modulo 4, and divides a a + 1.
-- So there is no least such n, and none.
module _ (n : ℕ) where
  residue : (a : ℕ) → (a * a + 1) % n ≡ 0 → (a % n * (a % n) + 1) % n ≡ 0
  residue a e =
      sym (mod-add-mod (a % n * (a % n)) n 1)
      ∙ ap (λ (x : ℕ). (x + 1) % n) (mod_mul_mod a (a % n) n ∙ mul_mod_mod a a n)
      ∙ mod-add-mod (a * a) n 1 ∙ e

  negated : (a b : ℕ) → a + b ≡ n → (a * a + 1) % n ≡ 0 → (b * b + 1) % n ≡ 0
  negated a b s e = sym (add-mul-mod_self_right (b * b + 1) a n) ∙ ap (λ (x : ℕ). x % n) same ∙ add-mul-mod_self_right (a * a + 1) b n ∙ e
    where
      same : b * b + 1 + a * n ≡ a * a + 1 + b * n
      same = omega (arith, ap (λ (x : ℕ). a * x) (sym s), ap (λ (x : ℕ). b * x) (sym s), mul-add a a b, mul-add b a b, mul_comm a b)

  abbrev Even : Type 0
  Even = (b : ℕ) × (b + b < n) × (((b + b) * (b + b) + 1) % n ≡ 0)

  module _ (form : n % 4 ≡ 3) where
    even : (a : ℕ) → a < n → (a * a + 1) % n ≡ 0 → Even
    even a h e = go (ℕ_discrete (a % 2) 0)
      where
        go : Dec (a % 2 ≡ 0) → Even
        go (yes z) = let s : a ≡ a / 2 + a / 2 = omega arith in (a / 2, omega arith, rw (← s) e)
        go (no z) =
            let b = n - a in
            let s : b ≡ b / 2 + b / 2 = omega arith in
            (b / 2, omega arith, rw (← s) (negated a b (omega arith) e))

    quotient_less : (q a : ℕ) → a < n → q * n ≡ a * a + 1 → q < n
    quotient_less q a h e = ⊎_elim (λ l. l) (λ l. absurd (omega (arith, product_lt n a a h h, mul-le-mul l (le_refl n), e))) (lt_or_ge q n)

    -- 3 q = 1 modulo 4, and 9 q = q
    quotient_form : (q b : ℕ) → q * n ≡ (b + b) * (b + b) + 1 → q % 4 ≡ 3
    quotient_form q b e =
        let one : ((b + b) * (b + b) + 1) % 4 ≡ 1 = omega (arith, mul-add (b + b) b b, add-mul b b b) in
        let three : q * 3 % 4 ≡ 1 = ap (λ (x : ℕ). q * x % 4) (sym form) ∙ mul_mod_mod q n 4 ∙ ap (λ (x : ℕ). x % 4) e ∙ one in
        sym (add-mul-mod_self_right q (q + q) 4)
        ∙ ap (λ (x : ℕ). x % 4) (omega arith)
        ∙ sym (mod_mul_mod (q * 3) 3 4) ∙ ap (λ (x : ℕ). x * 3 % 4) three

-- by how far n may reach
none_below : (k n a : ℕ) → n ≤ k → n % 4 ≡ 3 → (a * a + 1) % n ≡ 0 → ⊥
none_below zero n a h form e = omega arith
none_below (suc k) n a h form e =
    let r = even n form (a % n) (mod-lt a (omega arith)) (residue n a e) in
    let b = r.0 in
    let c = (b + b) * (b + b) + 1 in
    let q = c / n in
    let made : q * n ≡ c = omega (arith, div-add-mod' c n, r.2) in
    none_below k q (b + b) (omega (arith, quotient_less n form q (b + b) r.1 made)) (quotient_form n form q b made)
    (ap (λ (x : ℕ). x % q) (sym made) ∙ mul-mod_right q n)

module _ (𝓕 : PrimeField) where
  infixl 65 ◌⊞◌
  infixl 70 ◌⊠◌
  open 𝓕 use {modulus as p, field as F, words as W}
  open F use {ring as K}
  open K use {◌+◌ as ◌⊞◌, ◌*◌ as ◌⊠◌, neg, 𝟘, 𝟙, add_neg, add_comm}
  open W use {el, val, el_val, el_one, el_add, el_mul}

  pub no_root : p % 4 ≡ 3 → NoRoot F
  no_root form x e =
      let v = val x in
      let low : 0 < p = omega arith in
      let null : el (v * v + 1) ≡ 𝟘 =
      sym (el_add (v * v) 1) ∙ ap₂ ◌⊞◌ (sym (el_mul v v) ∙ ap₂ ◌⊠◌ (el_val x) (el_val x) ∙ e) el_one ∙ add_comm (neg 𝟙) 𝟙 ∙ add_neg 𝟙 in
      none_below p p v (le_refl p) form (is_word p K W _ 𝟘 (mod-lt (v * v + 1) low) (el_mod p K W (v * v + 1) ∙ null) ∙ val_zero 𝓕 low)

-- for 2147483647, and the pairs over it
pub no_root₁ : NoRoot 𝔽₁.field
no_root₁ = no_root 𝔽₁ refl

abbrev pub E₁ : Field
E₁ = square_field 𝔽₁.field no_root₁
