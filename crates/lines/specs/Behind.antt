-- A fold that is written behind its block, in the same slice. Definitions only. Assumes nothing.
use Rattle.std.specs.Prelude.{◌≡◌, List, ◌++◌, ℕ, ◌+◌, length, take}
use Rattle.algebra.specs.Words.{PrimeField}
use Rattle.algebra.specs.WordLists.{Low}
use Rattle.inversion.specs.Inversion.{Diagonals}
use Rattle.lines.specs.Folds.{fold_words}

-- a block of two halves, each as long as its diagonal t
abbrev pub block_before : List ℕ → List ℕ → List ℕ
block_before t w = take (length t + length t) w

module _ (𝓕 : PrimeField) where
  open 𝓕 use {modulus as P}

  -- diagonals, and room for the fold behind the block
  pub record FoldBehindLent (t t2 w : List ℕ) : Type 0 where
    pub diagonals : Diagonals 𝓕 1 (length t) t t2
    pub second : length t2 ≡ length t
    pub whole : length w ≡ length t + length t + length t
    pub block : Low P (block_before t w)

  -- the block, and its fold by a
  abbrev pub folded_behind : List ℕ → List ℕ → ℕ → List ℕ → List ℕ
  folded_behind t t2 a w = block_before t w ++ fold_words 𝓕 (length t) t t2 (block_before t w) a
