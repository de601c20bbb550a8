-- The code that k base rows and the diagonals of all levels make, as they are lent. Definitions only. Assumes nothing.
use Rattle.std.specs.Prelude.{List, ℕ, ◌≤◌, length}
use Rattle.algebra.specs.Words.{PrimeField}
use Rattle.algebra.specs.WordLists.{Low, elements, to_words}
use Rattle.foldable.specs.Code.{Code, encode, Legal}
use Rattle.job.specs.Limits.{diagonals_size}
use Rattle.parameters.specs.Lent.{diagonal}
use Rattle.cofactor.specs.Rows.{rows, Lent}

module _ (𝓕 : PrimeField) where
  open 𝓕 use {modulus as P, field as F}

  -- k base rows of n words, one behind the other in g
  abbrev pub lent_rows : ℕ → ℕ → List ℕ → List ℕ → List ℕ → Code F
  lent_rows k n g t t' = record { n₀ = n; G₀ = rows 𝓕 k n g; T = λ i. elements 𝓕 (diagonal n t i); T' = λ i. elements 𝓕 (diagonal n t' i) }

  -- the words of the codeword of a message of k 2^d words
  abbrev pub codeword_rows : ℕ → ℕ → ℕ → List ℕ → List ℕ → List ℕ → List ℕ → List ℕ
  codeword_rows d k n g t t' m = to_words 𝓕 (encode F (lent_rows k n g t t') d (elements 𝓕 m))

  -- rows and diagonals are long enough for depth d, their words are below the modulus, and the code is legal
  pub record RowCoding (d k n : ℕ) (g t t' : List ℕ) : Type 0 where
    pub lent : Lent 𝓕 k n g
    pub first : diagonals_size n d ≤ length t
    pub second : diagonals_size n d ≤ length t'
    pub low : Low P t
    pub low' : Low P t'
    pub legal : Legal F (lent_rows k n g t t') d
