-- The product of matrices, the identity, and the inverse of a matrix. Definitions only. Assumes nothing.
use Rattle.std.specs.Prelude.{◌≡◌, cond, List, map, ℕ, eqb, length}
use Rattle.algebra.specs.Ring.{Ring}
use Rattle.algebra.specs.Lists.{row}
use Rattle.algebra.specs.Matrix.{Wide, times}

-- k rows of k places
pub record Square {E : Type 0} (k : ℕ) (A : List (List E)) : Type 0 where
  pub rows : length A ≡ k
  pub wide : Wide k A

module _ (K : Ring) where
  open K use {R, 𝟘, 𝟙}

  -- the product A M, where M has n columns: each row of A times M
  unfoldable pub product : ℕ → List (List R) → List (List R) → List (List R)
  product n A M = map (λ row. times K n row M) A

  -- the identity of k rows: 1 where row and column are the same, else 0
  unfoldable pub diagonal : ℕ → ℕ → R
  diagonal i j = cond (eqb i j) 𝟙 𝟘

  unfoldable pub identity : ℕ → List (List R)
  identity k = row k (λ i. row k (diagonal i))

  -- M has k rows of k places, and A M and M A are the identity
  pub record Inverse (k : ℕ) (A M : List (List R)) : Type 0 where
    pub square : Square k M
    pub right : product k A M ≡ identity k
    pub left : product k M A ≡ identity k

  -- there is no inverse
  abbrev pub Singular : ℕ → List (List R) → Type 0
  Singular k A = (M : List (List R)) → Inverse k A M → ⊥
