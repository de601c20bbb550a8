-- The block of one base message, and what it is made of. Definitions only. Assumes nothing.
use Rattle.std.specs.Prelude.{◌≡◌, List, ℕ, length}
use Rattle.algebra.specs.Matrix.{times}
use Rattle.algebra.specs.Words.{PrimeField}
use Rattle.algebra.specs.WordLists.{Low, elements, to_words}
use Rattle.cofactor.specs.Rows.{rows, Lent}

module _ (𝓕 : PrimeField) where
  open 𝓕 use {modulus as P, field as F}
  open F use {ring as K}

  -- the words of a base message times the base matrix
  unfoldable pub block_of : ℕ → List ℕ → List ℕ → List ℕ
  block_of n g m = to_words 𝓕 (times K n (elements 𝓕 m) (rows 𝓕 (length m) n g))

  -- a base matrix of as many rows as the message has words, and a block of n words
  pub record BlockLent (n : ℕ) (g m out : List ℕ) : Type 0 where
    pub lent : Lent 𝓕 (length m) n g
    pub low : Low P m
    pub size : length out ≡ n
