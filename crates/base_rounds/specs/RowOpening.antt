-- The words of an opening over base messages of k = 2^low words, and what is lent to write them. Definitions only. Assumes nothing.
use Rattle.std.specs.Prelude.{◌≡◌, List, ℕ, ◌+◌, ◌*◌, ◌^◌, ◌≤◌, length}
use Rattle.algebra.specs.Words.{PrimeField}
use Rattle.algebra.specs.WordLists.{Low, elements, to_words}
use Rattle.basefold.specs.Layout.{opening_size}
use Rattle.basefold.specs.Written.{opening}
use Rattle.job.specs.Limits.{max_depth}
use Rattle.base_spread.specs.LentRows.{lent_rows, RowCoding}
use Rattle.base_steps.specs.RowSteps.{max_base}

module _ (𝓕 : PrimeField) where
  open 𝓕 use {modulus as P, field as F}

  -- the opening of the message m, for the code of k base rows of n words, with `low` variables inside a base message
  abbrev pub opening_rows : ℕ → ℕ → ℕ → List ℕ → List ℕ → List ℕ → List ℕ → List ℕ → List ℕ → List ℕ
  opening_rows low k n g t t' m z r = to_words 𝓕 (opening F low (lent_rows 𝓕 k n g t t') (elements 𝓕 m) (elements 𝓕 z) (elements 𝓕 r))

  -- exact lengths, o that of the opening and s that of the work buffer; words below the modulus, legal rows and diagonals
  pub record WriteInput (d low k n : ℕ) (g t t' m z r : List ℕ) (o s : ℕ) : Type 0 where
    pub deep : low + d ≤ max_depth
    pub wide : n ≤ max_base
    pub rows : 2 ^ low ≡ k
    pub coding : RowCoding 𝓕 d k n g t t'
    pub message : length m ≡ k * 2 ^ d
    pub point : length z ≡ low + d
    pub challenges : length r ≡ d
    pub message_low : Low P m
    pub point_low : Low P z
    pub challenges_low : Low P r
    pub opens : o ≡ opening_size n low d
    pub room : s ≡ 2 * (k * 2 ^ d)
