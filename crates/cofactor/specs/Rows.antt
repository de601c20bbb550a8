-- A base matrix of several rows, as it is lent: the rows one after another. Definitions only. Assumes nothing.
use Rattle.std.specs.Prelude.{◌≡◌, List, map, ℕ, ◌*◌, ◌≤◌, length, take, drop}
use Rattle.algebra.specs.Lists.{row}
use Rattle.algebra.specs.Words.{PrimeField}
use Rattle.algebra.specs.WordLists.{Low, elements}
use Rattle.job.specs.Sizes.{Size}

module _ (𝓕 : PrimeField) where
  open 𝓕 use {modulus as P, field as F}
  open F use {ring as K}
  open K use {R as Element}

  -- k rows of n words: row b is the words b n to b n + n - 1 of g
  unfoldable pub rows : ℕ → ℕ → List ℕ → List (List Element)
  rows k n g = row k (λ b. elements 𝓕 (take n (drop (b * n) g)))

  -- of these rows the first k columns
  unfoldable pub first_columns : ℕ → ℕ → List ℕ → List (List Element)
  first_columns k n g = map (take k) (rows k n g)

  -- k is 1, 2 or 4, a row has at least k words, g has k rows and nothing else, and each word is below the modulus
  pub record Lent (k n : ℕ) (g : List ℕ) : Type 0 where
    pub size : Size k
    pub few : k ≤ n
    pub long : length g ≡ k * n
    pub low : Low P g
