-- What the steps of comparing one column of a block are lent. Definitions only. Assumes nothing.
use Rattle.std.specs.Prelude.{◌≡◌, List, ◌++◌, ℕ, ◌+◌, ◌*◌, ◌^◌, ◌≤◌, ◌<◌, length, take, drop}
use Rattle.algebra.specs.Vector.{vectors}
use Rattle.algebra.specs.Words.{PrimeField}
use Rattle.algebra.specs.WordLists.{Low, elements, to_words}
use Rattle.foldable.specs.Code.{Code}
use Rattle.foldable.specs.OneColumn.{column_code}
use Rattle.job.specs.Limits.{max_depth, diagonals_size}
use Rattle.parameters.specs.Lent.{lent, Coding}
use Rattle.undo.specs.Steps.{longest_base}

-- half a column of level d, and where column j of the level's diagonal begins
pub record ColumnHalfIs (d j c half off low : ℕ) : Type 0 where
  pub low_is : d ≡ low + 1
  pub half_is : half ≡ 2 ^ low
  pub off_is : off ≡ j + diagonals_size c low

module _ (𝓕 : PrimeField) where
  infixl 66 ◌⊕◌
  infixl 70 ◌⊙◌
  open 𝓕 use {modulus as P, field as F}
  open F use {ring as K}
  open vectors K use {◌⊕◌, ◌⊙◌}

  -- the code of column j alone
  abbrev pub lent_column : ℕ → List ℕ → List ℕ → List ℕ → Code F
  lent_column j g t t' = column_code F (lent 𝓕 g t t') j

  -- the diagonals of a level, and a block of two halves
  pub record CrossInput (t t' out : List ℕ) : Type 0 where
    pub second : length t' ≡ length t
    pub size : length out ≡ length t + length t
    pub low : Low P t
    pub low' : Low P t'
    pub block : Low P out

  -- l + t r, then l + t' r
  unfoldable pub crossed : List ℕ → List ℕ → List ℕ → List ℕ
  crossed t t' w =
      let l = elements 𝓕 (take (length t) w) in
      let r = elements 𝓕 (drop (length t) w) in
      to_words 𝓕 ((l ⊕ elements 𝓕 t ⊙ r) ++ (l ⊕ elements 𝓕 t' ⊙ r))

  -- two halves of n words each, and the diagonals in every c-th place of t and t' from a on
  pub record CrossLent (n a c : ℕ) (t t' w : List ℕ) : Type 0 where
    pub wide : c ≤ longest_base
    pub first : a + n * c < length t + c
    pub second : a + n * c < length t' + c
    pub size : length w ≡ n + n
    pub low : Low P t
    pub low' : Low P t'
    pub block : Low P w

  -- column j of a block of level d
  pub record ColumnLent (d j : ℕ) (g t t' w : List ℕ) : Type 0 where
    pub coding : Coding 𝓕 d g t t'
    pub depth : d ≤ max_depth
    pub wide : length g ≤ longest_base
    pub column : j < length g
    pub size : length w ≡ 2 ^ d
    pub block : Low P w
