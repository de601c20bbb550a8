-- What the steps of undoing are lent, and what they leave. Definitions only. Assumes nothing.
use Rattle.std.specs.Prelude.{◌≡◌, List, ◌++◌, ℕ, ◌+◌, ◌*◌, ◌-◌, ◌^◌, ◌≤◌, ◌<◌, length, take, drop, get_or}
use Rattle.algebra.specs.Lists.{row}
use Rattle.algebra.specs.Vector.{vectors}
use Rattle.algebra.specs.Words.{PrimeField}
use Rattle.algebra.specs.WordLists.{Low as LowWords, elements, to_words}
use Rattle.foldable.specs.Code.{Code, Legal}
use Rattle.foldable.specs.Decode.{undo}
use Rattle.job.specs.Limits.{max_depth, max_rate, diagonals_size}
use Rattle.residue.specs.declared.Residue.{Residue}
use Rattle.residue.specs.Elements.{Low, elem}

-- the words of the longest base block: that of four base words at the largest rate
abbrev pub longest_base : ℕ
longest_base = max_rate * 4

-- half a column of level d, and the places of its level's inverses and diagonal
pub record ColumnHalfIs (d c half skip off low : ℕ) : Type 0 where
  pub low_is : d ≡ low + 1
  pub half_is : half ≡ 2 ^ low
  pub skip_is : half ≡ skip + 1
  pub off_is : off ≡ diagonals_size c low

module _ (𝓕 : PrimeField) where
  infixl 65 ◌⊟◌
  infixl 70 ◌⊠◌
  infixr 71 ◌⊛◌
  open 𝓕 use {modulus as P, field as F, words as W}
  open F use {ring as K, inv}
  open K use {◌*◌ as ◌⊠◌, ◌-◌ as ◌⊟◌}
  open W use {el, val as word}
  open vectors K use {◌⊛◌}

  -- two halves of n words each, the inverses of n differences from a on, and the diagonal in every c-th place of t, which ends with or behind its last
  pub record LevelLent (n a c : ℕ) (t w : List ℕ) : Type 0 where
    pub some : 0 < c
    pub wide : c ≤ longest_base
    pub diagonal : n * c < length t + c
    pub behind : n + n ≤ a
    pub within : a + n ≤ length w
    pub low : LowWords P t
    pub block : LowWords P w

  -- the slopes of the lines, and their values at 0
  abbrev pub slope_at : ℕ → ℕ → List ℕ → ℕ → ℕ
  slope_at n a w j = word (el (get_or w (a + j) 0) ⊠ (el (get_or w (n + j) 0) ⊟ el (get_or w j 0)))

  abbrev pub start_at : ℕ → ℕ → ℕ → List ℕ → List ℕ → ℕ → ℕ
  start_at n a c t w j = word (el (get_or w j 0) ⊟ el (get_or t (j * c) 0) ⊠ el (slope_at n a w j))

  unfoldable pub uncrossed : ℕ → ℕ → ℕ → List ℕ → List ℕ → List ℕ
  uncrossed n a c t w = (row n (start_at n a c t w) ++ row n (slope_at n a w)) ++ drop (n + n) w

  -- a column of level d in front of w, inverses from a on, and a residue x; t holds every c-th place of the diagonals of all levels, from the first on
  pub record ColumnLent (d a : ℕ) (x : Residue) (c : ℕ) (t w : List ℕ) : Type 0 where
    pub depth : d ≤ max_depth
    pub some : 0 < c
    pub wide : c ≤ longest_base
    pub unit : Low 𝓕 x
    pub behind : 2 ^ d ≤ a
    pub within : a + (2 ^ d - 1) ≤ length w
    pub diagonal : diagonals_size c d < length t + c
    pub low : LowWords P t
    pub block : LowWords P w

  -- a code of one column, whose diagonals below level d stand in every c-th place of t, and the inverses of their differences in w from a on
  pub record ColumnCode (d a c : ℕ) (t w : List ℕ) (C : Code F) : Type 0 where
    pub one : C.n₀ ≡ 1
    pub legal : Legal F C d
    pub first : (i j : ℕ) → i < d → j < 2 ^ i → get_or (C.T i) j K.𝟘 ≡ el (get_or t ((2 ^ i - 1 + j) * c) 0)
    pub inverse : (i j : ℕ) → i < d → j < 2 ^ i → el (get_or w (a + (2 ^ i - 1 + j)) 0) ≡ inv (get_or (C.T' i) j K.𝟘 ⊟ get_or (C.T i) j K.𝟘)

  -- the column is undone, as that of any code whose diagonals and inverses stand so, and the rest of the slice is as it was
  pub record ColumnUndone (d a : ℕ) (x : Residue) (c : ℕ) (t w out : List ℕ) : Type 0 where
    pub words : LowWords P out
    pub rest : drop (2 ^ d) out ≡ drop (2 ^ d) w
    pub column : (C : Code F) → ColumnCode d a c t w C → take (2 ^ d) out ≡ to_words 𝓕 (undo F C (λ v. elem 𝓕 x ⊛ v) d (elements 𝓕 (take (2 ^ d) w)))
