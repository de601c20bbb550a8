-- What comparing a block column by column is lent, with k base rows. Definitions only. Assumes nothing.
use Rattle.std.specs.Prelude.{◌≡◌, List, ℕ, ◌+◌, ◌*◌, ◌^◌, ◌≤◌, ◌<◌, length, take, drop, get_or}
use Rattle.algebra.specs.Lists.{row}
use Rattle.algebra.specs.Words.{PrimeField}
use Rattle.algebra.specs.WordLists.{Low}
use Rattle.foldable.specs.Every.{every}
use Rattle.job.specs.Limits.{max_depth, block_size}
use Rattle.undo.specs.Steps.{longest_base}
use Rattle.cofactor.specs.Rows.{Lent}
use Rattle.base_spread.specs.LentRows.{RowCoding, codeword_rows}
use Rattle.base_block.specs.Blocks.{block_of}

module _ (𝓕 : PrimeField) where
  open 𝓕 use {modulus as P}

  -- a base message, its base matrix and a column
  pub record WordLent (n j : ℕ) (g m : List ℕ) : Type 0 where
    pub lent : Lent 𝓕 (length m) n g
    pub low : Low P m
    pub column : j < n

  -- word j of each base block of the q base messages in m
  abbrev pub column_words : ℕ → ℕ → ℕ → ℕ → List ℕ → List ℕ → List ℕ
  column_words k n q j g m = row q (λ i. get_or (block_of 𝓕 n g (take k (drop (k * i) m))) j 0)

  -- q base messages in front of w, and room for a word of each
  pub record BaseLent (k n q j : ℕ) (g w : List ℕ) : Type 0 where
    pub lent : Lent 𝓕 k n g
    pub message : Low P (take (k * q) w)
    pub room : k * q + q ≤ length w
    pub column : j < n

  -- a message in front of the work buffer w, and a block which is compared with its codeword
  pub record MessageLent (d k n : ℕ) (g t t' b w : List ℕ) : Type 0 where
    pub coding : RowCoding 𝓕 d k n g t t'
    pub depth : d ≤ max_depth
    pub narrow : k + k ≤ n
    pub wide : n ≤ longest_base
    pub size : length b ≡ block_size n d
    pub work : length w ≡ block_size n d
    pub message : Low P (take (k * 2 ^ d) w)

  -- the same where the block has the first k columns of the codeword
  pub record ColumnsInput (d k n : ℕ) (g t t' b w : List ℕ) : Type 0 where
    pub lent : MessageLent d k n g t t' b w
    pub block : Low P b
    pub first : (a : ℕ) → a < k → every 0 n a (2 ^ d) (codeword_rows 𝓕 d k n g t t' (take (k * 2 ^ d) w)) ≡ every 0 n a (2 ^ d) b
