-- What writing an opening over base messages of several words leaves. Definitions only. Assumes nothing.
use Rattle.std.specs.Prelude.{◌≡◌, List, ℕ, replicate}
use Rattle.algebra.specs.Words.{PrimeField}
use Rattle.algebra.specs.WordLists.{elements}
use Rattle.multilinear.specs.Polynomial.{poly}
use Rattle.residue.specs.declared.Residue.{Residue}
use Rattle.base_rounds.specs.RowOpening.{opening_rows}

module _ (𝓕 : PrimeField) where
  open 𝓕 use {field as F, words as W}
  open F use {ring as K}
  open W use {val as word}

  -- the word of f(z)
  abbrev pub value_word : List ℕ → List ℕ → ℕ
  value_word m z = word (poly K (elements 𝓕 m) (elements 𝓕 z))

  -- the value v, the opening o' and the work buffer s' of c words
  pub record WriteResult (low k n : ℕ) (g t t' m z r : List ℕ) (c : ℕ) (v : Residue) (o' s' : List ℕ) : Type 0 where
    pub value : v.0 ≡ value_word m z
    pub opened : o' ≡ opening_rows 𝓕 low k n g t t' m z r
    pub cleared : s' ≡ replicate c 0
