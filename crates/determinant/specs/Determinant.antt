-- The determinant of a matrix of any size by expansion along its first row, the adjugate, and the adjugate divided by the determinant.
-- Definitions only. Assumes nothing.
use Rattle.std.specs.Prelude.{List, [], ◌∷◌, map, ℕ, zero, suc, ◌+◌ as ◌+ℕ◌, get_or}
use Rattle.algebra.specs.Ring.{Ring}
use Rattle.algebra.specs.Field.{Field}
use Rattle.algebra.specs.Lists.{row}
use Rattle.algebra.specs.Sums.{sum}

-- the list without its place i
unfoldable pub without : {E : Type 0} → ℕ → List E → List E
without i [] = []
without zero (x ∷ xs) = xs
without (suc i) (x ∷ xs) = x ∷ without i xs

-- the matrix without its row i and its column j
abbrev pub minor : {E : Type 0} → ℕ → ℕ → List (List E) → List (List E)
minor i j A = map (without j) (without i A)

module _ (K : Ring) where
  infixl 70 ◌*◌
  open K use {R, ◌*◌, neg, 𝟘, 𝟙}

  -- what stands in row i and column j
  abbrev pub entry : List (List R) → ℕ → ℕ → R
  entry A i j = get_or (get_or A i []) j 𝟘

  -- (-1)^i
  unfoldable pub sign : ℕ → R
  sign zero = 𝟙
  sign (suc i) = neg (sign i)

  -- the determinant of k rows: the sum over the columns j of (-1)^j times the entry in row 0 times the determinant of the rest
  unfoldable pub det : ℕ → List (List R) → R
  det zero A = 𝟙
  det (suc k) A = sum K (suc k) (λ j. sign j * entry A 0 j * det k (minor 0 j A))

  -- the adjugate of k rows: in row j and column i stands (-1)^(i + j) times the determinant without row i and column j
  unfoldable pub adjugate : ℕ → List (List R) → List (List R)
  adjugate zero A = []
  adjugate (suc k) A = row (suc k) (λ j. row (suc k) (λ i. sign (i +ℕ j) * det k (minor i j A)))

module _ (F : Field) where
  open F use {ring as K, inv}
  open K use {R, ◌*◌}

  -- the adjugate divided by the determinant
  unfoldable pub inverse : ℕ → List (List R) → List (List R)
  inverse k A = map (map (◌*◌ (inv (det K k A)))) (adjugate K k A)
