-- The job of encoding: its answer and its result, for every input. Definitions only. Assumes nothing.
use Rattle.std.specs.Prelude.{◌≡◌, Bool, ◌&&◌, List, [], ◌∷◌, ℕ, eqb, length}
use Rattle.algebra.specs.Words.{PrimeField}
use Rattle.job.specs.Outcome.{Answer}
use Rattle.job.specs.declared.Input.TheVariants.{Block}
use Rattle.job.specs.Outcome.{Outcome, outcome, kept}
use Rattle.job.specs.Limits.{block_size}
use Rattle.job.specs.Sizes.{base_size, message_size}
use Rattle.base_parameters.specs.Parameters.{row_lengths, judge_rows}
use Rattle.base_spread.specs.LentRows.{codeword_rows}

-- of the lengths of g, T, T', message and result
unfoldable pub encode_lengths : ℕ → ℕ → ℕ → ℕ → ℕ → ℕ → ℕ → ℕ → Bool
encode_lengths d c k g t t' m n = row_lengths d c k g t t' && (eqb m (message_size d k) && eqb n (block_size (base_size c k) d))

module _ (𝓕 : PrimeField) where
  -- the outcome, with a result of n words
  unfoldable pub judge_encoding : ℕ → ℕ → ℕ → List ℕ → List ℕ → List ℕ → List ℕ → ℕ → Outcome (Unit {0})
  judge_encoding d c k g t t' m n =
      judge_rows 𝓕 d c k g t t' (encode_lengths d c k (length g) (length t) (length t') (length m) n) ((Block, m) ∷ [])

  -- answer r and result out: refused as above, and out as it was; or out is the message times the generator matrix
  pub record Encoded (d c k : ℕ) (g t t' m old : List ℕ) (r : Answer) (out : List ℕ) : Type 0 where
    pub answer : outcome r ≡ judge_encoding d c k g t t' m (length old)
    pub result : out ≡ kept (judge_encoding d c k g t t' m (length old)) old (codeword_rows 𝓕 d k (base_size c k) g t t' m)
