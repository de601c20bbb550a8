-- What the steps of comparing are lent, and what they leave. Definitions only. Assumes nothing.
use Rattle.std.specs.Prelude.{◌≡◌, Bool, ◌&&◌, List, ℕ, suc, ◌+◌, ◌*◌, ◌^◌, ◌≤◌, length, take, drop}
use Rattle.algebra.specs.Words.{PrimeField}
use Rattle.algebra.specs.WordLists.{Low}
use Rattle.algebra.specs.Tests.{all_same}
use Rattle.job.specs.Limits.{max_depth, block_size, diagonals_size}
use Rattle.undo.specs.Steps.{longest_base}
use Rattle.base_spread.specs.LentRows.{RowCoding, codeword_rows}

-- the words of a block of level i, and the place of the level's diagonal
pub record LevelAt (i n size off end : ℕ) : Type 0 where
  pub size_is : size ≡ block_size n i
  pub off_is : off ≡ diagonals_size n i
  pub end_is : end ≡ off + size

module _ (𝓕 : PrimeField) where
  open 𝓕 use {modulus as P}

  -- the codeword of the message of depth d in front of w: is it the lent block, or the block that begins at m
  abbrev pub same_lent : ℕ → ℕ → ℕ → List ℕ → List ℕ → List ℕ → List ℕ → List ℕ → Bool
  same_lent d k n g t t' b w = all_same (codeword_rows 𝓕 d k n g t t' (take (k * 2 ^ d) w)) b

  abbrev pub same_rest : ℕ → ℕ → ℕ → ℕ → List ℕ → List ℕ → List ℕ → List ℕ → Bool
  same_rest d k n m g t t' w = same_lent d k n g t t' (take (block_size n d) (drop m w)) w

  -- a message of depth i + 1 in front of w, a block of that depth, and room from m on for half of it
  pub record TopLent (i k n m : ℕ) (g t t' b w : List ℕ) : Type 0 where
    pub coding : RowCoding 𝓕 (suc i) k n g t t'
    pub depth : i ≤ max_depth
    pub wide : n ≤ longest_base
    pub message : Low P (take (k * 2 ^ suc i) w)
    pub behind : k * 2 ^ suc i ≤ m
    pub within : m + block_size n i ≤ length w
    pub size : length b ≡ block_size n (suc i)
    pub block : Low P b

  -- a message of depth d in front of w, a block of that depth that begins at m, and room behind it for half as much again
  pub record CheckLent (d k n m : ℕ) (g t t' w : List ℕ) : Type 0 where
    pub coding : RowCoding 𝓕 d k n g t t'
    pub depth : d ≤ max_depth
    pub wide : n ≤ longest_base
    pub message : Low P (take (k * 2 ^ d) w)
    pub behind : k * 2 ^ d ≤ m
    pub within : (m + block_size n d) + (m + block_size n d) + block_size n d ≤ length w + length w
    pub block : Low P (take (block_size n d) (drop m w))

  -- with r the answer is yes exactly where the block that is left, of level i from m on, is the codeword of the message's left half
  pub record Stepped (i k n m : ℕ) (g t t' : List ℕ) (same : Bool) (w : List ℕ) (r : Bool) (out : List ℕ) : Type 0 where
    pub answer : same ≡ (r && same_rest i k n m g t t' out)
    pub kept : take m out ≡ take m w
    pub block : Low P (take (block_size n i) (drop m out))

  pub record Checked (d k n m : ℕ) (g t t' w : List ℕ) (r : Bool) (out : List ℕ) : Type 0 where
    pub answer : r ≡ same_rest d k n m g t t' w
    pub kept : take m out ≡ take m w
