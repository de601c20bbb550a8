-- What the parts of a step are lent, and what they leave. Definitions only. Assumes nothing.
use Rattle.std.specs.Prelude.{◌≡◌, List, ℕ, suc, ◌+◌, ◌*◌, ◌^◌, ◌≤◌, length, take, drop}
use Rattle.algebra.specs.Words.{PrimeField}
use Rattle.algebra.specs.WordLists.{Low}
use Rattle.job.specs.Limits.{max_depth, block_size}
use Rattle.undo.specs.Steps.{longest_base}
use Rattle.cofactor.specs.Rows.{Lent}
use Rattle.base_spread.specs.LentRows.{codeword_rows, RowCoding}
use Rattle.base_spread.specs.Steps.{blocks_of}

-- the right half of a message of two halves of h words each
abbrev pub right_half : ℕ → List ℕ → List ℕ
right_half h w = take h (drop h w)

module _ (𝓕 : PrimeField) where
  open 𝓕 use {modulus as P}

  -- a base message and its base matrix, whose block has at most 64 words
  pub record BaseLent (n : ℕ) (g m : List ℕ) : Type 0 where
    pub lent : Lent 𝓕 (length m) n g
    pub low : Low P m
    pub wide : n ≤ longest_base

  -- a base message at one place of w, and room for its block behind it
  pub record BehindLent (k n from to : ℕ) (g w : List ℕ) : Type 0 where
    pub lent : Lent 𝓕 k n g
    pub low : Low P (take k (drop from w))
    pub message : from + k ≤ to
    pub block : to + n ≤ length w

  -- a message of two halves of q base messages each in front of w, and room from b on for the base blocks of the right half
  pub record RightLent (k n q b : ℕ) (g w : List ℕ) : Type 0 where
    pub lent : Lent 𝓕 k n g
    pub message : Low P (take (k * q + k * q) w)
    pub behind : k * q + k * q ≤ b
    pub within : b + n * q ≤ length w

  pub record RightSpread (k n q b : ℕ) (g w out : List ℕ) : Type 0 where
    pub kept : take b out ≡ take b w
    pub base : take (n * q) (drop b out) ≡ blocks_of 𝓕 k n g (right_half (k * q) w)

  -- a message of two halves of depth i in front of w, and room from b on for the codeword of the right half
  pub record CodeLent (i k n b : ℕ) (g t t' w : List ℕ) : Type 0 where
    pub coding : RowCoding 𝓕 i k n g t t'
    pub depth : i ≤ max_depth
    pub message : Low P (take (k * 2 ^ suc i) w)
    pub behind : k * 2 ^ suc i ≤ b
    pub within : b + block_size n i ≤ length w

  pub record RightWritten (i k n b : ℕ) (g t t' w out : List ℕ) : Type 0 where
    pub kept : take b out ≡ take b w
    pub right : take (block_size n i) (drop b out) ≡ codeword_rows 𝓕 i k n g t t' (right_half (k * 2 ^ i) w)
