-- The steps of a writer of openings over base messages of 2^low words: what each is lent, and what it leaves. Definitions only. Assumes nothing.
use Rattle.std.specs.Prelude.{◌≡◌, List, ◌++◌, ℕ, ◌+◌, ◌*◌, ◌^◌, ◌<◌, ◌≤◌, length, take, drop, get_or}
use Rattle.algebra.specs.Words.{PrimeField}
use Rattle.algebra.specs.WordLists.{Low as LowWords, to_words}
use Rattle.basefold.specs.Layout.{opening_size}
use Rattle.job.specs.Limits.{max_depth, max_rate}
use Rattle.residue.specs.declared.Residue.{Residue}
use Rattle.residue.specs.Elements.{Low, elem}
use Rattle.steps.specs.Steps.{weighed, LeftAbove, left_of}
use Rattle.base_spread.specs.LentRows.{RowCoding}

-- the words of the longest base block: four rows at the largest rate
abbrev pub max_base : ℕ
max_base = max_rate * 4

module _ (𝓕 : PrimeField) where
  open 𝓕 use {modulus as P, words as W}
  open W use {el, val as word}

  -- what is left above level i has 2^(low + i + 1) words: s holds them in front
  pub record TakeInput (low i : ℕ) (w : Residue) (z r s : List ℕ) : Type 0 where
    pub deep : low + i < max_depth
    pub weight : Low 𝓕 w
    pub point : low + i < length z
    pub challenge : i < length r
    pub point_low : LowWords P z
    pub challenges_low : LowWords P r
    pub above : LeftAbove 𝓕 (low + i) s

  -- the weight v at level i, and the work buffer s'
  pub record TakeResult (low i : ℕ) (w : Residue) (z r s : List ℕ) (v : Residue) (s' : List ℕ) : Type 0 where
    pub weight : v.0 ≡ word (weighed 𝓕 (elem 𝓕 w) (el (get_or z (low + i) 0)) (el (get_or r i 0)))
    pub left : s' ≡ to_words 𝓕 (left_of 𝓕 (low + i) (get_or r i 0) s) ++ drop (2 ^ (low + i)) s

  -- k = 2^low rows of n words; o is the length of the opening, and s holds what is left at level i in front
  pub record GiveBlockInput (d low i k n : ℕ) (g t t' : List ℕ) (o : ℕ) (s : List ℕ) : Type 0 where
    pub level : i < d
    pub deep : low + d ≤ max_depth
    pub wide : n ≤ max_base
    pub rows : 2 ^ low ≡ k
    pub coding : RowCoding 𝓕 d k n g t t'
    pub size : o ≡ opening_size n low d
    pub room : 2 ^ (low + i) ≤ length s
    pub left_low : LowWords P (take (2 ^ (low + i)) s)
