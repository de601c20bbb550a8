-- A message and a block of a code of one base row. Definitions only. Assumes nothing.
use Rattle.std.specs.Prelude.{◌≡◌, List, ℕ, ◌^◌, length}
use Rattle.algebra.specs.Words.{PrimeField}
use Rattle.algebra.specs.WordLists.{Low}
use Rattle.job.specs.Limits.{block_size}
use Rattle.parameters.specs.Lent.{Coding}

module _ (𝓕 : PrimeField) where
  open 𝓕 use {modulus as P}

  -- exact lengths, words below the modulus, a legal row and diagonals
  pub record EncodeInput (d : ℕ) (g t t' m : List ℕ) (n : ℕ) : Type 0 where
    pub coding : Coding 𝓕 d g t t'
    pub message : length m ≡ 2 ^ d
    pub words : Low P m
    pub size : n ≡ block_size (length g) d
