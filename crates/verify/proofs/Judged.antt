-- What is lent to the checks of a call where nothing is refused, and what is due. Assumes nothing.
use mathlib.Core.Path.{◌≡◌, ap, ◌∙◌}
use mathlib.Core.Bool.{true}
use mathlib.Core.List.{List}
use mathlib.Core.Option.{Option}
use Prim.Native.Nat.{ℕ, ◌<◌}
use Rattle.algebra.specs.Words.{PrimeField}
use Rattle.algebra.specs.WordLists.{elements}
use Rattle.basefold.specs.Checks.{Check, first_failure, checks}
use Rattle.job.specs.Outcome.{Numbers, refused, done}
use Rattle.job.specs.OutcomeLaws.{both, after_refused, after_done}
use Rattle.job.specs.Sizes.{limits, in_limits, base_size, low}
use Rattle.job.specs.SizeLaws.{limits_within}
use Rattle.residue.specs.Elements.{elem}
use Rattle.residue.specs.declared.Residue.{Residue}
use Rattle.base_parameters.specs.ParameterLaws.{within_of, lengths_of, words_of, apart_of}
use Rattle.base_spread.specs.LentRows.{lent_rows}
use Rattle.base_verify.specs.Steps.{ChecksInput}
use Rattle.base_verify.specs.Laws.{rows_input}
use Rattle.queries.specs.QueryLaws.{queries_legal}
use Rattle.opened.specs.Opened.{judge_opened}
use Rattle.verify.specs.Verifying.{judge_verifying, verification}
use Rattle.verify.specs.VerifyingLaws.{Opened, verifying_exactly}
use Rattle.verify.proofs.QueryTests.{query_places}

module _ (𝓕 : PrimeField) where
  open 𝓕 use {modulus as P, field as F, words as W}
  open W use {el}

  -- the queries are only judged within the limits
  pub opened_within : (d c k : ℕ) (g t t' w z : List ℕ) (y : ℕ) (r o : List ℕ) → judge_opened 𝓕 d c k g t t' w z y r o ≡ done tt → in_limits d c k ≡ true
  opened_within d c k g t t' w z y r o e = limits_within d c k (both (limits d c k) e).0

  -- what is known where nothing is refused
  module _ (d c k : ℕ) (g t t' w z : List ℕ) (y : ℕ) (r us o : List ℕ) (e : judge_verifying 𝓕 d c k g t t' w z y r us o ≡ done tt) where
    opened : Opened 𝓕 d c k g t t' w z y r us o
    opened = (verifying_exactly 𝓕 d c k g t t' w z y r us o).0 e

    pub value_low : y < P
    value_low = opened.words.value

    pub all_within : in_limits d c k ≡ true
    all_within = limits_within d c k opened.rows.within

    -- of the variables inside a base message and of the words of a base block, as they are computed, and of the claim as it is taken
    pub checks_input : {l n : ℕ} → l ≡ low k → n ≡ base_size c k → (v : Residue) → v.0 ≡ y → ChecksInput 𝓕 d l k n g t t' w z v r us o
    checks_input el en v ev =
        let 𝓡 = opened.rows in
        let 𝓛 = opened.lengths in
        let 𝓑 = opened.words in
        let s = lengths_of 𝓕 𝓡 in
        let h = words_of 𝓕 𝓡 in
        rw (el, en)
        (record {
          blocks = rows_input 𝓕 (within_of 𝓕 𝓡) s.row s.first s.second 𝓛.block 𝓛.challenges 𝓛.opening h.row h.first h.second 𝓑.block 𝓑.challenges 𝓑.opening (apart_of 𝓕 𝓡).1;
          point = 𝓛.point;
          below = 𝓑.point;
          claim = rw ev value_low;
          queries = query_places d (base_size c k) us (queries_legal d (base_size c k) us opened.queries).0;
        })

  -- what is due: a refusal, or the first failure
  module _ (d c k : ℕ) (g t t' w z : List ℕ) (y : ℕ) (r us o : List ℕ) where
    pub refusal_due : {n : Numbers} → refused n ≡ judge_verifying 𝓕 d c k g t t' w z y r us o → refused n ≡ verification 𝓕 d c k g t t' w z y r us o
    unfolding verification
    refusal_due e = after_refused _ e

    pub failure_due : {x : Option Check} {l n : ℕ} → l ≡ low k → n ≡ base_size c k → (v : Residue) → v.0 ≡ y → done tt ≡ judge_verifying 𝓕 d c k g t t' w z y r us o
        → x ≡ first_failure (checks F l (lent_rows 𝓕 k n g t t') (elements 𝓕 w) (elements 𝓕 z) (elem 𝓕 v) (elements 𝓕 r) us (elements 𝓕 o)) → done x ≡ verification 𝓕 d c k g t t' w z y r us o
    unfolding verification
    failure_due eₗ eₙ v ev e f =
        after_done e (ap done (f ∙ (λ i. first_failure (checks F (eₗ i) (lent_rows 𝓕 k (eₙ i) g t t') (elements 𝓕 w) (elements 𝓕 z) (el (ev i)) (elements 𝓕 r) us (elements 𝓕 o)))))
