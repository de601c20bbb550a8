-- What is refused of all that verifying is lent, but for the queries. Definitions only. Assumes nothing.
use Rattle.std.specs.Prelude.{Bool, ◌&&◌, List, [], ◌∷◌, ℕ, eqb, ltb, length}
use Rattle.algebra.specs.Words.{PrimeField}
use Rattle.job.specs.declared.Input.TheVariants.{Block, Z, Y, R, Opening}
use Rattle.job.specs.Outcome.{Outcome}
use Rattle.job.specs.Limits.{block_size}
use Rattle.job.specs.Sizes.{base_size, point_size, opening_size}
use Rattle.words.specs.Scans.{all_below}
use Rattle.places.specs.Inputs.{Lent}
use Rattle.base_parameters.specs.Parameters.{row_lengths, judge_rows}

-- of the lengths of g, T, T', block, z, r and opening, at depth d, rate c and k words a base message
unfoldable pub opened_lengths : ℕ → ℕ → ℕ → ℕ → ℕ → ℕ → ℕ → ℕ → ℕ → ℕ → Bool
opened_lengths d c k g t t' w z r o =
    row_lengths d c k g t t' && (eqb w (block_size (base_size c k) d) && (eqb z (point_size d k) && (eqb r d && eqb o (opening_size d c k))))

-- what is lent behind g, T and T'; the claimed value is an input of one word
abbrev pub claim_inputs : (w z : List ℕ) (y : ℕ) (r o : List ℕ) → List Lent
claim_inputs w z y r o = (Block, w) ∷ (Z, z) ∷ (Y, y ∷ []) ∷ (R, r) ∷ (Opening, o) ∷ []

module _ (𝓕 : PrimeField) where
  open 𝓕 use {modulus as P}

  -- of the words of block, z, y, r and opening, as one flag
  abbrev pub claim_words : (w z : List ℕ) (y : ℕ) (r o : List ℕ) → Bool
  claim_words w z y r o = all_below 𝓕 w && (all_below 𝓕 z && (ltb y P && (all_below 𝓕 r && all_below 𝓕 o)))

  -- the refusals of all this
  abbrev pub judge_opened : (d c k : ℕ) (g t t' w z : List ℕ) (y : ℕ) (r o : List ℕ) → Outcome (Unit {0})
  judge_opened d c k g t t' w z y r o =
      judge_rows 𝓕 d c k g t t' (opened_lengths d c k (length g) (length t) (length t') (length w) (length z) (length r) (length o)) (claim_inputs w z y r o)
