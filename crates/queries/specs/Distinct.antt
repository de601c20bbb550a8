-- Whether a word stands in two places: what it is, and a test of it. Definitions only. Assumes nothing.
use Rattle.std.specs.Prelude.{◌≡◌, ◌≢◌, Bool, true, not, ◌&&◌, List, [], ◌∷◌, ℕ, ◌<◌, eqb, length, get_or}
use Rattle.algebra.specs.Tests.{all}

-- two different positions hold the same word
pub record Repeated (ws : List ℕ) : Type 0 where
  pub one : ℕ
  pub other : ℕ
  pub within : (one < length ws) × (other < length ws)
  pub different : one ≢ other
  pub same : get_or ws one 0 ≡ get_or ws other 0

-- any two different positions hold different words
pub record Distinct (ws : List ℕ) : Type 0 where
  pub apart : (j k : ℕ) → j < length ws → k < length ws → j ≢ k → get_or ws j 0 ≢ get_or ws k 0

-- none of the words is x
abbrev pub absent : ℕ → List ℕ → Bool
absent x ws = all (λ w. not (eqb w x)) ws

-- no later word is the first, and the rest is distinct
unfoldable pub distinct : List ℕ → Bool
distinct [] = true
distinct (w ∷ ws) = absent w ws && distinct ws
