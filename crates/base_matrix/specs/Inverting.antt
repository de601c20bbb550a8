-- What inverting, solving and judging a base matrix answer. Definitions only. Assumes nothing.
use Rattle.std.specs.Prelude.{Bool, true, false, not, cond, ◌↔◌, ◌≡◌, List, ℕ, ◌≤◌, eqb, length, replicate}
use Rattle.algebra.specs.Matrix.{times}
use Rattle.algebra.specs.Words.{PrimeField}
use Rattle.algebra.specs.WordLists.{Low, elements, to_words}
use Rattle.words.specs.Scans.{none_zero}
use Rattle.determinant.specs.Inverse.{Inverse, Singular}
use Rattle.determinant.specs.Determinant.{det}
use Rattle.cofactor.specs.Rows.{first_columns}
use Rattle.base_matrix.specs.declared.Inverted.{Inverted}

module _ (𝓕 : PrimeField) where
  open 𝓕 use {modulus as P, field as F, words as W}
  open F use {ring as K}
  open W use {val as word}

  -- singular exactly when no matrix is an inverse of the first k columns; else m holds one, of which a row is four words apart from the next
  pub record Inverts (k n : ℕ) (g : List ℕ) (r : Inverted) : Type 0 where
    pub refused : (r.singular ≡ true) ↔ Singular K k (first_columns 𝓕 k n g)
    pub none : r.singular ≡ true → r.m ≡ replicate 16 0
    pub inverse : r.singular ≡ false → Inverse K k (first_columns 𝓕 k n g) (first_columns 𝓕 k 4 r.m)
    pub sixteen : length r.m ≡ 16
    pub low : Low P r.m

  -- at most four words, and a matrix in sixteen
  pub record SolveLent (m b : List ℕ) : Type 0 where
    pub sixteen : length m ≡ 16
    pub few : length b ≤ 4
    pub low_matrix : Low P m
    pub low : Low P b

  -- the words of b times the matrix of as many rows and columns
  unfoldable pub solved : List ℕ → List ℕ → List ℕ
  solved m b = to_words 𝓕 (times K (length b) (elements 𝓕 b) (first_columns 𝓕 (length b) 4 m))

  -- whether a base matrix is legal: one row has no zero; of two or four rows the first columns have an inverse
  pub record BaseOk (k n : ℕ) (g : List ℕ) (r : Bool) : Type 0 where
    pub one : k ≡ 1 → r ≡ none_zero g
    pub more : (k ≡ 1 → ⊥) → (r ≡ false) ↔ Singular K k (first_columns 𝓕 k n g)

  -- the same as one test, by the determinant (Laws: base_exactly, base_is)
  unfoldable pub base_ok : ℕ → ℕ → List ℕ → Bool
  base_ok k n g = cond (eqb k 1) (none_zero g) (not (eqb (word (det K k (first_columns 𝓕 k n g))) 0))
