-- The job of verifying: what is refused, and the first check that fails. Definitions only. Assumes nothing.
use Rattle.std.specs.Prelude.{List, ℕ}
use Rattle.std.proofs.Math.Option.{Option}
use Rattle.algebra.specs.Words.{PrimeField}
use Rattle.algebra.specs.WordLists.{elements}
use Rattle.basefold.specs.Checks.{Check, first_failure, checks}
use Rattle.job.specs.Outcome.{Outcome, done, ◌⨾◌}
use Rattle.job.specs.Sizes.{base_size, low}
use Rattle.base_spread.specs.LentRows.{lent_rows}
use Rattle.queries.specs.Queries.{judge_queries}
use Rattle.opened.specs.Opened.{judge_opened}

module _ (𝓕 : PrimeField) where
  open 𝓕 use {field as F, words as W}
  open W use {el}

  -- the refusals, in their order: of all that is lent but the queries, then of these
  unfoldable pub judge_verifying : (d c k : ℕ) (g t t' w z : List ℕ) (y : ℕ) (r us o : List ℕ) → Outcome (Unit {0})
  judge_verifying d c k g t t' w z y r us o = judge_opened 𝓕 d c k g t t' w z y r o ⨾ judge_queries d (base_size c k) us

  -- a refusal, or the first check that fails, or none
  unfoldable pub verification : (d c k : ℕ) (g t t' w z : List ℕ) (y : ℕ) (r us o : List ℕ) → Outcome (Option Check)
  verification d c k g t t' w z y r us o =
      judge_verifying d c k g t t' w z y r us o
      ⨾ done (first_failure (checks F (low k) (lent_rows 𝓕 k (base_size c k) g t t') (elements 𝓕 w) (elements 𝓕 z) (el y) (elements 𝓕 r) us (elements 𝓕 o)))
