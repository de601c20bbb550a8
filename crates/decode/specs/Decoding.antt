-- The job of decoding: its answer, its result and its work buffer, for every input. Definitions only. Assumes nothing.
use Rattle.std.specs.Prelude.{◌≡◌, Bool, ◌&&◌, List, [], ◌∷◌, ℕ, eqb, length, replicate}
use Rattle.algebra.specs.Words.{PrimeField}
use Rattle.job.specs.Outcome.{Answer}
use Rattle.job.specs.declared.Input.TheVariants.{Block}
use Rattle.job.specs.Outcome.{Numbers, Outcome, refused, done, outcome}
use Rattle.job.specs.Limits.{block_size}
use Rattle.job.specs.Sizes.{base_size, message_size}
use Rattle.base_parameters.specs.Parameters.{row_lengths, judge_rows}
use Rattle.base_settle.specs.Settling.{Settled}

-- of the lengths of g, T, T', block, result and work buffer
unfoldable pub decode_lengths : ℕ → ℕ → ℕ → ℕ → ℕ → ℕ → ℕ → ℕ → ℕ → Bool
decode_lengths d c k g t t' b m s =
    row_lengths d c k g t t' && (eqb b (block_size (base_size c k) d) && (eqb m (message_size d k) && eqb s (block_size (base_size c k) d)))

module _ (𝓕 : PrimeField) where
  -- the refusals 1 to 6 and 13, with a result of m words and a work buffer of s
  unfoldable pub judge_decoding : ℕ → ℕ → ℕ → List ℕ → List ℕ → List ℕ → List ℕ → ℕ → ℕ → Outcome (Unit {0})
  judge_decoding d c k g t t' b m s =
      judge_rows 𝓕 d c k g t t' (decode_lengths d c k (length g) (length t) (length t') (length b) m s) ((Block, b) ∷ [])

  -- answer r, result out and work buffer work, which were old and space
  pub data Decoded (d c k : ℕ) (g t t' b old space : List ℕ) (r : Answer) (out work : List ℕ) : Type 0 where
    refusal : (n : Numbers) → judge_decoding d c k g t t' b (length old) (length space) ≡ refused n → outcome r ≡ refused n → out ≡ old → work ≡ space → Decoded d c k g t t' b old space r out work
    settled : judge_decoding d c k g t t' b (length old) (length space) ≡ done tt → Settled 𝓕 d k (base_size c k) g t t' b old r out → work ≡ replicate (length space) 0
        → Decoded d c k g t t' b old space r out work
