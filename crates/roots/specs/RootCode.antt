-- The foldable code whose base row is all ones and whose diagonals are powers of roots of unity, and the polynomial in one variable whose values its codewords are.
-- Definitions only. Assumes nothing.
use Rattle.std.specs.Prelude.{◌≡◌, List, [], ◌∷◌, map, ℕ, zero, suc, ◌+◌ as ◌+ℕ◌, ◌*◌ as ◌*ℕ◌, ◌/◌, ◌%◌, ◌^◌, ◌<◌, ◌≤◌, length, get_or, replicate}
use Rattle.algebra.specs.Ring.{Ring}
use Rattle.algebra.specs.Field.{Field}
use Rattle.algebra.specs.Lists.{row}
use Rattle.algebra.specs.Sums.{sum}
use Rattle.foldable.specs.Code.{Code}

-- k with its d bits in reverse: the lowest becomes the highest, and the others follow it in reverse
unfoldable pub reverse_bits : ℕ → ℕ → ℕ
reverse_bits zero k = 0
reverse_bits (suc d) k = k % 2 *ℕ 2 ^ d +ℕ reverse_bits d (k / 2)

module _ (K : Ring) where
  infixl 70 ◌*◌
  open K use {R, ◌*◌, 𝟘, 𝟙}

  -- x^n
  unfoldable pub pow : R → ℕ → R
  pow x zero = 𝟙
  pow x (suc n) = x * pow x n

  -- x has the order n: x^n = 1, and no smaller positive power is 1
  pub record Order (x : R) (n : ℕ) : Type 0 where
    pub power : pow x n ≡ 𝟙
    pub least : (k : ℕ) → 0 < k → k < n → pow x k ≡ 𝟙 → ⊥

  -- x^0, .., x^(n-1)
  abbrev pub powers : R → ℕ → List R
  powers x n = row n (pow x)

  -- the polynomial with the coefficients a at x: the sum of a_k x^k
  unfoldable pub value : List R → R → R
  value a x = sum K (length a) (λ k. get_or a k 𝟘 * pow x k)

  -- a message of 2^d words in bit-reversed order: at place k its word at the reversed k
  unfoldable pub reversed : ℕ → List R → List R
  reversed d m = row (2 ^ d) (λ k. get_or m (reverse_bits d k) 𝟘)

module _ (F : Field) where
  infixl 70 ◌*◌
  open F use {ring as K}
  open K use {R, ◌*◌, neg, 𝟙}

  -- the base row is c ones, T_i the powers 0 .. n_i - 1 of ω_(i+1), and T'_i = -T_i
  abbrev pub root_code : ℕ → (ℕ → R) → Code F
  root_code c ω =
      record {
        n₀ = c;
        G₀ = replicate c 𝟙 ∷ [];
        T = λ i. powers K (ω (suc i)) (c *ℕ 2 ^ i);
        T' = λ i. map neg (powers K (ω (suc i)) (c *ℕ 2 ^ i));
      }

  -- up to level d the root ω_i has the order n_i = c 2^i, and each is the square of the next
  pub record Roots (c d : ℕ) (ω : ℕ → R) : Type 0 where
    pub order : (i : ℕ) → i ≤ d → Order K (ω i) (c *ℕ 2 ^ i)
    pub square : (i : ℕ) → i < d → ω (suc i) * ω (suc i) ≡ ω i

  -- a table of roots, with the entries 0 .. b: entry 1 is -1, and each is the square of the next
  pub record Table (b : ℕ) (root : ℕ → R) : Type 0 where
    pub above : 0 < b
    pub minus : root 1 ≡ neg 𝟙
    pub square : (k : ℕ) → k < b → root (suc k) * root (suc k) ≡ root k
