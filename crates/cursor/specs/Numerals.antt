-- Numbers written one after another, where they stand in a file, and that they are read there. Definitions only. Assumes nothing.
use Rattle.std.specs.Prelude.{◌≡◌, ℕ, ◌+◌, ◌≤◌, length, drop}
use mathlib.Core.List.{List, ◌++◌, flat_map}
use Rattle.job.specs.Outcome.{Numbers, done}
use Rattle.numeral.specs.Numeral.{bytes}
use Rattle.cursor.specs.Walk.{under, walk, listed}

-- numerals one after another
abbrev pub all_bytes : List ℕ → List ℕ
all_bytes = flat_map bytes

-- ys is the part of a file from a place to before e
pub record Part (ys bs : List ℕ) (at e : ℕ) : Type 0 where
  pub ends : at + length ys ≡ e
  pub within : e ≤ length bs
  pub here : drop at bs ≡ ys ++ drop e bs

-- the numbers from a place to before e, each below the limit, are xs
pub record ReadBack (limit : ℕ) (fault : ℕ → Numbers) (i : ℕ) (xs bs : List ℕ) (at e : ℕ) : Type 0 where
  pub reads : walk (under limit fault) i (length xs) bs at ≡ done e
  pub list : listed (length xs) bs at ≡ xs
