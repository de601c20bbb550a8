-- What was judged, and with which limits, when every base message had one word: a base row of c words. Definitions only, for OneRow. Assumes nothing.
use Rattle.std.specs.Prelude.{◌≡◌, Bool, true, ◌&&◌, List, ◌++◌, ℕ, eqb, leb, length}
use Rattle.algebra.specs.Words.{PrimeField}
use Rattle.job.specs.Outcome.{Outcome, done, require, unless, ◌⨾◌}
use Rattle.job.specs.Limits.{max_depth, rate_ok, diagonals_size}
use Rattle.places.specs.Inputs.{Lent, in_order, judge_words, no_zero, no_equal}
use Rattle.parameters.specs.Parameters.{row_inputs, row_words}

abbrev pub depth_ok : ℕ → Bool
depth_ok d = leb d max_depth

abbrev pub limits : ℕ → ℕ → Outcome (Unit {0})
limits d c = require (depth_ok d) 1 ⨾ require (rate_ok c) 2

-- depth and rate are legal, as one test
abbrev pub in_limits : ℕ → ℕ → Bool
in_limits d c = depth_ok d && rate_ok c

-- of the lengths of g, T and T'
unfoldable pub row_lengths : ℕ → ℕ → ℕ → ℕ → ℕ → Bool
row_lengths d c g t t' = eqb g c && (eqb t (diagonals_size c d) && eqb t' (diagonals_size c d))

-- 5, then 6
abbrev pub legal_row : List ℕ → List ℕ → List ℕ → Outcome (Unit {0})
legal_row g t t' = no_zero g ⨾ no_equal t t'

module _ (𝓕 : PrimeField) where
  -- the refusals 1 to 6
  abbrev pub judge_row : ℕ → ℕ → List ℕ → List ℕ → List ℕ → Bool → List Lent → Outcome (Unit {0})
  judge_row d c g t t' lengths xs = limits d c ⨾ require lengths 3 ⨾ judge_words 𝓕 (row_inputs g t t' ++ xs) ⨾ legal_row g t t'

  -- the same by flags
  abbrev pub judge_flags : ℕ → ℕ → (g t t' w z y r o : List ℕ) → Bool → Bool → Bool → Outcome (Unit {0})
  judge_flags d c g t t' w z y r o lengths words apart =
      limits d c ⨾ require lengths 3 ⨾ unless words (judge_words 𝓕 (in_order g t t' w z y r o)) ⨾ no_zero g ⨾ unless apart (no_equal t t')

  -- no refusal is due for depth, rate, row and diagonals
  pub record LegalRow (d c : ℕ) (g t t' : List ℕ) : Type 0 where
    pub within : limits d c ≡ done tt
    pub lengths : row_lengths d c (length g) (length t) (length t') ≡ true
    pub words : row_words 𝓕 g t t' ≡ true
    pub legal : legal_row g t t' ≡ done tt
