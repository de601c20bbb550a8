-- What base and fold checks over base messages of several words are lent. Definitions only. Assumes nothing.
use Rattle.std.specs.Prelude.{◌≡◌, List, ℕ, ◌^◌, ◌≤◌, length}
use Rattle.algebra.specs.Words.{PrimeField}
use Rattle.algebra.specs.WordLists.{Low as LowWords}
use Rattle.basefold.specs.Layout.{opening_size}
use Rattle.job.specs.Limits.{max_depth, block_size}
use Rattle.undo.specs.Steps.{longest_base}
use Rattle.base_spread.specs.LentRows.{RowCoding}

-- depth d, `low` variables inside a base message of k words, base blocks of n words
pub record RowSizes (d low k n : ℕ) : Type 0 where
  pub depth : d ≤ max_depth
  pub wide : n ≤ longest_base
  pub words : k ≡ 2 ^ low
  pub few : k ≤ n

module _ (𝓕 : PrimeField) where
  open 𝓕 use {modulus as P}

  -- all that base and fold checks read beside the queries: base matrix, diagonals, commitment, challenges and opening, of exact lengths
  pub record RowsInput (d low k n : ℕ) (g t t' w r o : List ℕ) : Type 0 where
    pub sizes : RowSizes d low k n
    pub coding : RowCoding 𝓕 d k n g t t'
    pub size : length w ≡ block_size n d
    pub block : LowWords P w
    pub challenges : length r ≡ d
    pub below : LowWords P r
    pub opened : length o ≡ opening_size n low d
    pub opening : LowWords P o
