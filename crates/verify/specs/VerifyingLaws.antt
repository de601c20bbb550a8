-- A call of verifying is not refused exactly where its inputs are as they should be. Assumes nothing.
use Rattle.std.specs.Prelude.{◌≡◌, Bool, ◌↔◌, List, ℕ, length}
use Rattle.std.proofs.Math.Path.{sym}
use Rattle.algebra.specs.Words.{PrimeField}
use Rattle.job.specs.Outcome.{done}
use Rattle.job.specs.OutcomeLaws.{both, after_done}
use Rattle.job.specs.Sizes.{base_size}
use Rattle.job.specs.SizeLaws.{limits_within}
use Rattle.base_parameters.specs.Parameters.{LegalRows}
use Rattle.base_parameters.specs.ParameterLaws.{rows_passed, rows_done, legal_passed}
use Rattle.queries.specs.Queries.{judge_queries}
use Rattle.opened.specs.Opened.{opened_lengths, claim_inputs, judge_opened}
use Rattle.opened.specs.OpenedLaws.{ClaimLengths, opened_lengths_lem, ClaimLow, claim_low}
use Rattle.verify.specs.Verifying.{judge_verifying}

module _ (𝓕 : PrimeField) where
  -- what is lent is as it should be
  pub record Opened (d c k : ℕ) (g t t' w z : List ℕ) (y : ℕ) (r us o : List ℕ) : Type 0 where
    pub rows : LegalRows 𝓕 d c k g t t'
    pub lengths : ClaimLengths d c k (length w) (length z) (length r) (length o)
    pub words : ClaimLow 𝓕 w z y r o
    pub queries : judge_queries d (base_size c k) us ≡ done tt

  module _ (d c k : ℕ) (g t t' w z : List ℕ) (y : ℕ) (r us o : List ℕ) where
    abbrev L : Bool
    L = opened_lengths d c k (length g) (length t) (length t') (length w) (length z) (length r) (length o)

    -- a call is not refused exactly where this holds
    pub verifying_exactly : (judge_verifying 𝓕 d c k g t t' w z y r us o ≡ done tt) ↔ Opened d c k g t t' w z y r us o
    unfolding judge_verifying
    verifying_exactly = (
      λ e. let q = both (judge_opened 𝓕 d c k g t t' w z y r o) e in
          let p = rows_passed 𝓕 d c k g t t' L (claim_inputs w z y r o) q.0 in
          let l = (opened_lengths_lem d c k (length g) (length t) (length t') (length w) (length z) (length r) (length o)).0 p.lengths in
          record {
            rows = legal_passed 𝓕 p l.0;
            lengths = l.1;
            words = (claim_low 𝓕 w z y r o).0 p.others;
            queries = q.1;
          },
      λ 𝓞. let 𝓡 = 𝓞.rows in
          let l = (opened_lengths_lem d c k (length g) (length t) (length t') (length w) (length z) (length r) (length o)).1 (𝓡.lengths, 𝓞.lengths) in
          let o = rows_done 𝓕 d c k g t t' L (claim_inputs w z y r o) (record { within = limits_within d c k 𝓡.within; lengths = l; words = 𝓡.words; others = (claim_low 𝓕 w z y r o).1 𝓞.words; rows = 𝓡.legal }) in
          sym (after_done (sym o) (sym 𝓞.queries)),
    )
