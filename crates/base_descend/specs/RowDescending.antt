-- The block of a level as the fold of the block above it, with `low` low variables: what the step is lent, and what it writes. Definitions only. Assumes nothing.
use Rattle.std.specs.Prelude.{◌≡◌, List, ℕ, suc, ◌+◌, ◌<◌, ◌≤◌, length, take, drop, get_or}
use Rattle.algebra.specs.Words.{PrimeField}
use Rattle.algebra.specs.WordLists.{Low}
use Rattle.basefold.specs.Layout.{block_at, opening_size}
use Rattle.lines.specs.Folds.{fold_words}
use Rattle.job.specs.Limits.{max_depth, block_size}
use Rattle.parameters.specs.Lent.{diagonal, Coding}
use Rattle.base_steps.specs.RowSteps.{max_base}

-- the block of level i + 1 in an opening, base blocks having n words
abbrev pub block_above : ℕ → ℕ → ℕ → ℕ → List ℕ → List ℕ
block_above d low i n o = take (block_size n (suc i)) (drop (block_at n low d (suc i)) o)

module _ (𝓕 : PrimeField) where
  open 𝓕 use {modulus as P}

  -- its fold by r_i
  abbrev pub folded_above : ℕ → ℕ → ℕ → ℕ → List ℕ → List ℕ → List ℕ → List ℕ → List ℕ
  folded_above d low i n t t' r o = fold_words 𝓕 (block_size n i) (diagonal n t i) (diagonal n t' i) (block_above d low i n o) (get_or r i 0)

  -- g is one base row, lent for its length: the levels above the base depend on nothing else of the rows
  pub record FoldBlockInput (d low i : ℕ) (g t t' r o : List ℕ) : Type 0 where
    pub level : suc i < d
    pub deep : low + d ≤ max_depth
    pub wide : length g ≤ max_base
    pub coding : Coding 𝓕 d g t t'
    pub challenge : i < length r
    pub challenges_low : Low P r
    pub size : length o ≡ opening_size (length g) low d
    pub block : Low P (block_above d low i (length g) o)
