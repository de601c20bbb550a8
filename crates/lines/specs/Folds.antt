-- The words of a fold. Definitions only. Assumes nothing.
use Rattle.std.specs.Prelude.{List, ℕ}
use Rattle.algebra.specs.Words.{PrimeField}
use Rattle.algebra.specs.WordLists.{elements, to_words}
use Rattle.foldable.specs.Code.{fold_along}

module _ (𝓕 : PrimeField) where
  open 𝓕 use {field as F, words as W}
  open W use {el}

  -- the words of the fold by a, for diagonals and a result of n words
  abbrev pub fold_words : ℕ → List ℕ → List ℕ → List ℕ → ℕ → List ℕ
  fold_words n t t2 block a = to_words 𝓕 (fold_along F n (el a) (elements 𝓕 t) (elements 𝓕 t2) (elements 𝓕 block))
