-- When a query list is refused, and by which number. Assumes nothing.
use Rattle.std.specs.Prelude.{◌≡◌, refl, Bool, true, false, ◌↔◌, List, leb, length}
use Rattle.std.proofs.Common.{ap, arith}
use Prim.Native.Nat.{ℕ, suc, ◌<◌}
use Rattle.algebra.specs.Tests.{and_both}
use Rattle.job.specs.Outcome.{Numbers, Outcome, refused, done, require, ◌⨾◌}
use Rattle.job.specs.OutcomeLaws.{named, held, require_done, require_number, after_number}
use Rattle.job.specs.Limits.{block_size}
use Rattle.queries.specs.Distinct.{Repeated, Distinct, distinct}
use Rattle.queries.specs.DistinctLaws.{distinct_exactly, repeated_exactly}
use Rattle.queries.specs.Few.{distinct_few}
use Rattle.queries.specs.Queries.{max_queries, queries_ok, judge_queries}

module _ (d c : ℕ) (us : List ℕ) where
  -- a list that is not refused
  pub queries_legal : judge_queries d c us ≡ done tt → (queries_ok d c us ≡ true) × (distinct us ≡ true)
  unfolding judge_queries
  queries_legal e = let b = require_done (queries_ok d c us) 7 e in (b.0, held (distinct us) 11 b.1)

  -- it is one that 7 passes and where no place stands twice
  pub legal_exactly : (judge_queries d c us ≡ done tt) ↔ ((queries_ok d c us ≡ true) × Distinct us)
  unfolding judge_queries
  legal_exactly = (
    λ e. let b = queries_legal e in (b.0, (distinct_exactly us).0 b.1),
    λ h. rw (h.0, (distinct_exactly us).1 h.1),
  )

  -- 7 whatever stands twice
  pub seven_first : queries_ok d c us ≡ false → judge_queries d c us ≡ refused (7, 0, 0)
  unfolding judge_queries
  seven_first e = rw e

  -- 11 exactly where 7 passes and two different positions hold the same place
  pub eleven_exactly : (judge_queries d c us ≡ refused (11, 0, 0)) ↔ ((queries_ok d c us ≡ true) × Repeated us)
  unfolding judge_queries
  eleven_exactly = (
    λ e. let b = by (queries_ok d c us) (distinct us) e in (b.0, (repeated_exactly us).0 b.1),
    λ h. rw (h.0, (repeated_exactly us).1 h.1),
  )
    where
      number : Outcome (Unit {0}) → ℕ
      number o = (named o).0

      by : (a b : Bool) → require a 7 ⨾ require b 11 ≡ refused (11, 0, 0) → (a ≡ true) × (b ≡ false)
      by true false e = (refl, refl)
      by true true e = let z : ◌≡◌ {A = ℕ} 0 11 = ap number e in absurd (omega arith)
      by false b e = let z : ◌≡◌ {A = ℕ} 7 11 = ap number e in absurd (omega arith)

-- what holds of 7 and 11 holds of the number of any refusal
pub queries_number : (Q : ℕ → Type 0) → Q 7 → Q 11 → (d c : ℕ) (us : List ℕ) {n : Numbers} → judge_queries d c us ≡ refused n → Q n.0
unfolding judge_queries
queries_number Q seven eleven d c us =
    after_number Q (require (queries_ok d c us) 7) (require_number Q (queries_ok d c us) 7 seven) (require_number Q (distinct us) 11 eleven)

-- a list longer than there are places is refused
pub too_many : (i c : ℕ) (us : List ℕ) → block_size c i < length us → judge_queries (suc i) c us ≡ done tt → ⊥
unfolding queries_ok
too_many i c us h e =
    let q = queries_legal (suc i) c us e in
    let a = and_both (leb 1 (length us)) _ q.0 in
    let b = and_both (leb (length us) max_queries) _ a.1 in
    omega (arith, h, distinct_few (block_size c i) us q.1 b.1)
