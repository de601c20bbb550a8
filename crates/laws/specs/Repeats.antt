-- When the verifier refuses with 11: exactly when nothing before it is due and two different positions of the query list hold the same place; no
-- check decides before it. Assumes nothing.
use Rattle.std.specs.Prelude.{◌≡◌, refl, ◌↔◌, ◌≢◌, List, true, ℕ, length}
use Rattle.std.proofs.Common.{ap, arith}
use Rattle.std.proofs.Math.Option.{Option, none, some}
use Rattle.algebra.specs.Words.{PrimeField}
use Rattle.basefold.specs.Checks.{Check}
use Rattle.job.specs.Outcome.{Numbers, Outcome, refused, done, ◌⨾◌}
use Rattle.job.specs.Sizes.{base_size}
use Rattle.base_parameters.specs.NamedLaws.{judge_number}
use Rattle.queries.specs.Distinct.{Repeated}
use Rattle.queries.specs.Queries.{queries_ok, judge_queries}
use Rattle.queries.specs.QueryLaws.{eleven_exactly}
use Rattle.verdict.specs.Verdicts.{numbers_of}
use Rattle.opened.specs.Opened.{opened_lengths, claim_inputs, judge_opened}
use Rattle.verify.specs.Verifying.{judge_verifying, verification}
use Rattle.laws.specs.Accepts.{check_least}

-- of two outcomes and what the checks find, 11 can only come from the second
only_second : (j q : Outcome (Unit {0})) (f : Option Check) → ((n : Numbers) → j ≡ refused n → n.0 ≢ 11) → numbers_of ((j ⨾ q) ⨾ done f) ≡ (11, 0, 0)
    → (j ≡ done tt) × (q ≡ refused (11, 0, 0))
only_second (refused n) q f p e = absurd (p n refl (ap (λ x. x.0) e))
only_second (done a) (refused n) f p e = (refl, ap refused e)
only_second (done a) (done b) none p e = absurd (omega (arith, ap (λ x. x.0) e))
only_second (done a) (done b) (some k) p e = absurd (omega (arith, check_least k, ap (λ x. x.0) e))

module _ (𝓕 : PrimeField) (d c k : ℕ) (g t t' w z : List ℕ) (y : ℕ) (r us o : List ℕ) where
  pub repeats_exactly : (numbers_of (verification 𝓕 d c k g t t' w z y r us o) ≡ (11, 0, 0))
      ↔ ((judge_opened 𝓕 d c k g t t' w z y r o ≡ done tt) × (queries_ok d (base_size c k) us ≡ true) × Repeated us)
  unfolding verification judge_verifying
  repeats_exactly = (
    λ e. let s = only_second (judge_opened 𝓕 d c k g t t' w z y r o) (judge_queries d (base_size c k) us) _ early e in let q = (eleven_exactly d (base_size c k) us).0 s.1 in (s.0, q.0, q.1),
    λ h. rw (h.0, (eleven_exactly d (base_size c k) us).1 (h.1, h.2)),
  )
    where
      early : (n : Numbers) → judge_opened 𝓕 d c k g t t' w z y r o ≡ refused n → n.0 ≢ 11
      early n =
          judge_number 𝓕 (λ b. b ≢ 11) (λ b lo hi e. omega arith) (λ e. omega arith) d c k g t t' (opened_lengths d c k (length g) (length t) (length t') (length w) (length z) (length r) (length o))
          (claim_inputs w z y r o)
