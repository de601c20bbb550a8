-- What an evaluation is lent. Definitions only. Assumes nothing.
use Rattle.std.specs.Prelude.{◌≡◌, List, ℕ, ◌^◌, length}
use Rattle.algebra.specs.Words.{PrimeField}
use Rattle.algebra.specs.WordLists.{Low}

module _ (𝓕 : PrimeField) where
  open 𝓕 use {modulus as P}

  -- a word for each set of variables
  pub record EvaluateInput (m z : List ℕ) : Type 0 where
    pub size : length m ≡ 2 ^ length z
    pub message : Low P m
    pub point : Low P z
