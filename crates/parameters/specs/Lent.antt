-- The code that a base row and the diagonals of all levels make, as they are lent. Definitions only. Assumes nothing.
use Rattle.std.specs.Prelude.{List, ℕ, ◌≤◌, length, take, drop}
use Rattle.algebra.specs.Words.{PrimeField}
use Rattle.algebra.specs.WordLists.{Low, elements, to_words}
use Rattle.foldable.specs.Code.{Code, one_row, encode, Legal}
use Rattle.job.specs.Limits.{block_size, diagonals_size}

-- level i of a slice that holds the diagonals of all levels: n_i words from c (2^i - 1) on
unfoldable pub diagonal : ℕ → List ℕ → ℕ → List ℕ
diagonal c t i = take (block_size c i) (drop (diagonals_size c i) t)

module _ (𝓕 : PrimeField) where
  open 𝓕 use {modulus as P, field as F}

  -- one base row, whose length is the rate
  abbrev pub lent : List ℕ → List ℕ → List ℕ → Code F
  lent g t t' = one_row F (elements 𝓕 g) (λ i. elements 𝓕 (diagonal (length g) t i)) (λ i. elements 𝓕 (diagonal (length g) t' i))

  -- the words of the codeword of a message of depth d
  abbrev pub codeword : ℕ → List ℕ → List ℕ → List ℕ → List ℕ → List ℕ
  codeword d g t t' m = to_words 𝓕 (encode F (lent g t t') d (elements 𝓕 m))

  -- what is known of row and diagonals once no refusal is due for them: at depth d
  pub record Coding (d : ℕ) (g t t' : List ℕ) : Type 0 where
    pub first : diagonals_size (length g) d ≤ length t
    pub second : diagonals_size (length g) d ≤ length t'
    pub row : Low P g
    pub low : Low P t
    pub low' : Low P t'
    pub legal : Legal F (lent g t t') d
