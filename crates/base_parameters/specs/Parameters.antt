-- What a job that is lent a base matrix and the diagonals of all levels judges, in the order of the refusals 1, 2, 13, 3, 4, 5, 6. Definitions only. Assumes nothing.
use Rattle.std.specs.Prelude.{◌≡◌, Bool, true, ◌&&◌, cond, List, ◌++◌, ℕ, eqb, length}
use Rattle.algebra.specs.Words.{PrimeField}
use Rattle.job.specs.declared.Refusal.TheVariants.{BaseRow}
use Rattle.job.specs.Outcome.{Outcome, done, due, demand, require, unless, ◌⨾◌}
use Rattle.job.specs.Limits.{diagonals_size}
use Rattle.words.specs.Scans.{all_below}
use Rattle.places.specs.declared.inputs.Inputs.{Inputs}
use Rattle.places.specs.Inputs.{Lent, in_order, judge_words, no_zero, no_equal}
use Rattle.base_parameters.specs.declared.judging.Flags.{Flags}
use Rattle.parameters.specs.Parameters.{row_inputs, row_words}
use Rattle.base_matrix.specs.Inverting.{base_ok}
use Rattle.job.specs.Sizes.{limits, in_limits, base_size, matrix_size}

-- of the lengths of g, T and T'
unfoldable pub row_lengths : ℕ → ℕ → ℕ → ℕ → ℕ → ℕ → Bool
row_lengths d c k g t t' = eqb g (matrix_size c k) && (eqb t (diagonals_size (base_size c k) d) && eqb t' (diagonals_size (base_size c k) d))

module _ (𝓕 : PrimeField) where
  -- 5: of one row the first zero; of k rows of n words the index 0, where the first k columns have no inverse
  unfoldable pub legal_base : ℕ → ℕ → List ℕ → Outcome (Unit {0})
  legal_base k n g = cond (eqb k 1) (no_zero g) (demand (base_ok 𝓕 k n g) (due (BaseRow 0)))

  -- 5, then 6
  abbrev pub legal_rows : ℕ → ℕ → List ℕ → List ℕ → List ℕ → Outcome (Unit {0})
  legal_rows k n g t t' = legal_base k n g ⨾ no_equal t t'

  -- a job's refusals 1 to 6 and 13, by its own test of all lengths and by the inputs that it has behind g, T and T'
  abbrev pub judge_rows : ℕ → ℕ → ℕ → List ℕ → List ℕ → List ℕ → Bool → List Lent → Outcome (Unit {0})
  judge_rows d c k g t t' lengths xs = limits d c k ⨾ require lengths 3 ⨾ judge_words 𝓕 (row_inputs g t t' ++ xs) ⨾ legal_rows k (base_size c k) g t t'

  -- the same by flags: of all lengths, of all words and of the diagonals; where one of the last two is set, nothing is looked for
  abbrev pub judge_flags : ℕ → ℕ → ℕ → (g t t' w z y r o : List ℕ) → Bool → Bool → Bool → Outcome (Unit {0})
  judge_flags d c k g t t' w z y r o lengths words apart =
      limits d c k ⨾ require lengths 3 ⨾ unless words (judge_words 𝓕 (in_order g t t' w z y r o)) ⨾ legal_base k (base_size c k) g ⨾ unless apart (no_equal t t')

  -- .. of a call's inputs and flags in one record each
  abbrev pub judge_inputs : ℕ → ℕ → ℕ → Inputs → Flags → Outcome (Unit {0})
  judge_inputs d c k i f = judge_flags d c k i.g.now i.t.now i.t2.now i.block.now i.z.now i.y.now i.r.now i.opening.now f.lengths f.words f.apart

  -- no refusal is due for depth, rate, k0, base matrix and diagonals
  pub record LegalRows (d c k : ℕ) (g t t' : List ℕ) : Type 0 where
    pub within : limits d c k ≡ done tt
    pub lengths : row_lengths d c k (length g) (length t) (length t') ≡ true
    pub words : row_words 𝓕 g t t' ≡ true
    pub legal : legal_rows k (base_size c k) g t t' ≡ done tt

  -- what a job's flags promise of the base matrix: where the lengths are right, so is its own; where the words are right, so are its own
  pub record Flagged (c k : ℕ) (g : List ℕ) (lengths words : Bool) : Type 0 where
    pub long : lengths ≡ true → length g ≡ matrix_size c k
    pub below : words ≡ true → all_below 𝓕 g ≡ true

  -- a base matrix of which 5 may be judged
  pub record BaseLent (d c k : ℕ) (g : List ℕ) : Type 0 where
    pub within : in_limits d c k ≡ true
    pub long : length g ≡ matrix_size c k
    pub below : all_below 𝓕 g ≡ true
