-- A block compared with the codeword, of k base rows, of a message that stands in front of the work buffer. Definitions only. Assumes nothing.
use Rattle.std.specs.Prelude.{◌≡◌, Bool, List, ℕ, ◌*◌, ◌^◌, ◌≤◌, length, take}
use Rattle.algebra.specs.Words.{PrimeField}
use Rattle.algebra.specs.WordLists.{Low}
use Rattle.algebra.specs.Tests.{all_same}
use Rattle.job.specs.Limits.{max_depth, block_size}
use Rattle.undo.specs.Steps.{longest_base}
use Rattle.base_spread.specs.LentRows.{RowCoding, codeword_rows}

module _ (𝓕 : PrimeField) where
  open 𝓕 use {modulus as P}

  -- a block b of depth d, and a work buffer w of as many words with a message in front; from rate 4 on a block of half the size fits behind it, and half as much again
  pub record CompareInput (d k n : ℕ) (g t t' b w : List ℕ) : Type 0 where
    pub coding : RowCoding 𝓕 d k n g t t'
    pub depth : d ≤ max_depth
    pub narrow : 4 * k ≤ n
    pub wide : n ≤ longest_base
    pub size : length b ≡ block_size n d
    pub block : Low P b
    pub work : length w ≡ block_size n d
    pub message : Low P (take (k * 2 ^ d) w)

  -- whether the block is the codeword of the message, which is as it was
  pub record Compared (d k n : ℕ) (g t t' b w : List ℕ) (r : Bool) (out : List ℕ) : Type 0 where
    pub answer : r ≡ all_same (codeword_rows 𝓕 d k n g t t' (take (k * 2 ^ d) w)) b
    pub message : take (k * 2 ^ d) out ≡ take (k * 2 ^ d) w
