-- When the verifier accepts: exactly when nothing is refused and each of the order's equations holds, over the words lent; and
-- which check it names otherwise.
--     accepts_exactly, rejects_exactly
-- Assumes nothing.
use Rattle.std.specs.Prelude.{◌≡◌, refl, true, cond, ◌↔◌, List, ◌++◌, ℕ, suc, ◌+◌, ◌*◌, ◌^◌, ◌<◌, ◌≤◌, eqb, ltb, length, get_or, take, drop}
use Rattle.std.proofs.Common.{sym, ◌∙◌, add_comm, length-take, length-drop}
use Rattle.std.proofs.Math.Path.{ap, ap₂}
use Rattle.std.proofs.Math.Bool.{Bool}
use Rattle.std.proofs.Math.Logic.Iff
use Rattle.std.proofs.Math.Option.{Option, none, some}
use native.Mathlib.Omega.{arith}
use borrow.Author.Tests.{eqb-true}
use Rattle.algebra.specs.Numerals.{num}
use Rattle.algebra.specs.Sums as sums
use Rattle.algebra.specs.Tests.{and_both}
use Rattle.algebra.specs.Words.{PrimeField}
use Rattle.algebra.specs.WordLists.{elements, elements_take, elements_drop, length_elements, get_or_elements}
use Rattle.foldable.specs.Code.{Code, size, encode, line}
use Rattle.multilinear.specs.Corners.{over_corners, eq}
use Rattle.multilinear.specs.Polynomial.{poly}
use Rattle.multilinear.specs.Quadratic.{through}
use Rattle.multilinear.specs.Rounds.{final_sum}
use Rattle.basefold.specs.Layout.{round_at, final_at, block_of, sent, carried}
use Rattle.basefold.specs.Checks.{Check, sum_check, final_check, base_check, fold_check, first_failure, FailsFirst, checks}
use Rattle.basefold.specs.CheckLaws.{first_exactly}
use Rattle.basefold.specs.Plain.{elements_block}
use Rattle.basefold.specs.Equations.{claim, Equations}
use Rattle.basefold.specs.Honest.{Queries}
use Rattle.basefold.specs.Accepts.{none_fails_exactly}
use Rattle.job.specs.Outcome.{Numbers, Outcome, refused, done, ◌⨾◌}
use Rattle.job.specs.OutcomeLaws.{both, after_number}
use Rattle.job.specs.Limits.{block_size}
use Rattle.job.specs.Sizes.{base_size, matrix_size, low, point_size, opening_size}
use Rattle.job.specs.SizeLaws.{within}
use Rattle.parameters.specs.Lent.{diagonal}
use Rattle.base_parameters.specs.Parameters.{row_lengths}
use Rattle.base_parameters.specs.ParameterLaws.{row_lengths_lem, rows_passed}
use Rattle.base_parameters.specs.NamedLaws.{judge_number}
use Rattle.base_spread.specs.LentRows.{lent_rows}
use Rattle.base_checks.specs.Laws.{base_sum, encode_base}
use Rattle.verdict.specs.Verdicts.{check_numbers, numbers_of}
use Rattle.queries.specs.Queries.{queries_ok}
use Rattle.queries.specs.QueryLaws.{queries_legal, queries_number}
use Rattle.opened.specs.Opened.{opened_lengths, claim_inputs, judge_opened}
use Rattle.verify.specs.Verifying.{judge_verifying, verification}
use Rattle.laws.specs.Openings.{legal_queries}
use Rattle.laws.specs.Equations.{final_words, sent_element, final_element, block_element, claimed, Accepts}

-- the refusals of the verifier are above 0 and below the numbers of checks
abbrev Number : ℕ → Type 0
Number n = (1 ≤ n) × (n ≤ 13)

-- the check with a number and its places
abbrev check_of : Numbers → Check
check_of n = cond (eqb n.0 20) (sum_check n.1) (cond (eqb n.0 21) final_check (cond (eqb n.0 22) (base_check n.1) (fold_check n.1 n.2)))

check_numbers_lem : (c : Check) → check_of (check_numbers c) ≡ c
check_numbers_lem (sum_check i) = refl
check_numbers_lem final_check = refl
check_numbers_lem (base_check j) = refl
check_numbers_lem (fold_check q i) = refl

pub check_least : (c : Check) → 20 ≤ (check_numbers c).0
check_least (sum_check i) = omega arith
check_least final_check = omega arith
check_least (base_check j) = omega arith
check_least (fold_check q i) = omega arith

-- a check is named exactly when nothing is refused and it is the first that fails
named_split : (j : Outcome (Unit {0})) (f : Option Check) (c : Check) → ((n : Numbers) → j ≡ refused n → Number n.0) → numbers_of (j ⨾ done f) ≡ check_numbers c → (j ≡ done tt) × (f ≡ some c)
named_split (refused n) f c p e = absurd (omega (arith, (p n refl).1, check_least c, ap (λ x. x.0) e))
named_split (done tt) none c p e = absurd (omega (arith, check_least c, ap (λ x. x.0) e))
named_split (done tt) (some b) c p e = (refl, ap some (sym (check_numbers_lem b) ∙ ap check_of e ∙ check_numbers_lem c))

-- 0 is answered exactly when nothing is refused and no check fails
accepted_split : (j : Outcome (Unit {0})) (f : Option Check) → ((n : Numbers) → j ≡ refused n → Number n.0) → numbers_of (j ⨾ done f) ≡ (0, 0, 0) → (j ≡ done tt) × (f ≡ none)
accepted_split (refused n) f p e = absurd (omega (arith, (p n refl).0, ap (λ x. x.0) e))
accepted_split (done tt) none p e = (refl, refl)
accepted_split (done tt) (some c) p e = absurd (omega (arith, check_least c, ap (λ x. x.0) e))

module _ (𝓕 : PrimeField) where
  infixl 65 ◌⊞◌
  infixl 70 ◌⊠◌
  open 𝓕 use {field as F, words as W}
  open F use {ring as K, inv}
  open K use {◌+◌ as ◌⊞◌, ◌*◌ as ◌⊠◌}
  open W use {el}

  module _ (d c k : ℕ) (g t t' w z : List ℕ) (y : ℕ) (r us o : List ℕ) where
    -- the words of a base block, and the code
    abbrev n : ℕ
    n = base_size c k

    abbrev C : Code F
    C = lent_rows 𝓕 k n g t t'

    abbrev judged : Outcome (Unit {0})
    judged = judge_verifying 𝓕 d c k g t t' w z y r us o

    refusals : (n : Numbers) → judged ≡ refused n → Number n.0
    unfolding judge_verifying
    refusals x =
        after_number Number (judge_opened 𝓕 d c k g t t' w z y r o) (judge_number 𝓕 Number (λ b lo hi. (lo, omega arith)) (omega arith, omega arith) d c k g t t' lengths (claim_inputs w z y r o))
        (queries_number Number (omega arith, omega arith) (omega arith, omega arith) d (base_size c k) us)
      where
        lengths : Bool
        lengths = opened_lengths d c k (length g) (length t) (length t') (length w) (length z) (length r) (length o)

    -- what the equations need of the lengths and queries
    record Known : Type 0 where
      matrix : length g ≡ matrix_size c k
      challenges : length r ≡ d
      long : length o ≡ opening_size d c k
      power : 2 ^ low k ≡ k
      asked : queries_ok d n us ≡ true

    known : judged ≡ done tt → Known
    unfolding judge_verifying opened_lengths
    known e =
        let j = both (judge_opened 𝓕 d c k g t t' w z y r o) e in
        let p = rows_passed 𝓕 d c k g t t' (opened_lengths d c k (length g) (length t) (length t') (length w) (length z) (length r) (length o)) (claim_inputs w z y r o) j.0 in
        let l = and_both (row_lengths d c k (length g) (length t) (length t')) _ p.lengths in
        let l₂ = and_both (eqb (length w) (block_size n d)) _ l.1 in
        let l₃ = and_both (eqb (length z) (point_size d k)) _ l₂.1 in
        let l₄ = and_both (eqb (length r) d) _ l₃.1 in
        record {
          matrix = (row_lengths_lem d c k (length g) (length t) (length t') l.0).row;
          challenges = eqb-true _ _ l₄.0;
          long = eqb-true _ _ l₄.1;
          power = (within d c k p.within).power;
          asked = (queries_legal d n us j.1).0;
        }

    module _ (𝓚 : Known) where
      depth : length (elements 𝓕 r) ≡ d
      depth = length_elements 𝓕 r ∙ 𝓚.challenges

      sent_is : (i x : ℕ) → sent F (elements 𝓕 o) (length (elements 𝓕 r)) i x ≡ sent_element 𝓕 d o i x
      sent_is i x = ap (λ n. get_or (elements 𝓕 o) (round_at n i + x) K.𝟘) depth ∙ get_or_elements 𝓕 o (round_at d i + x)

      claim_is : (i : ℕ) → claim F (elements 𝓕 o) (elements 𝓕 r) (el y) i ≡ claimed 𝓕 d y r o i
      claim_is i = λ j. cond (ltb i (depth j)) (through K (inv (num K 2)) (sent_is (suc i) 0 j) (sent_is (suc i) 1 j) (sent_is (suc i) 2 j) (get_or_elements 𝓕 r i j)) (el y)

      carried_is : carried F (low k) (elements 𝓕 o) (length (elements 𝓕 r)) ≡ elements 𝓕 (final_words d k o)
      carried_is =
          ap₂ (λ a b. take a (drop (final_at b) (elements 𝓕 o))) 𝓚.power depth
          ∙ sym (elements_take 𝓕 k (drop (final_at d) o) ∙ ap (take k) (elements_drop 𝓕 (final_at d) o))

      carried_length : length (final_words d k o) ≡ k
      carried_length = length-take k (drop (final_at d) o) ∙ omega (arith, length-drop (final_at d) o, 𝓚.long)

      block_is : (i u : ℕ) → get_or (block_of n (low k) (length (elements 𝓕 r)) (elements 𝓕 w) (elements 𝓕 o) i) u K.𝟘 ≡ block_element 𝓕 d c k w o i u
      block_is i u =
          ap (λ m. get_or (block_of n (low k) m (elements 𝓕 w) (elements 𝓕 o) i) u K.𝟘) depth
          ∙ ap (λ b. get_or b u K.𝟘) (sym (elements_block 𝓕 n (low k) d w o i)) ∙ get_or_elements 𝓕 (block_of n (low k) d w o i) u

      final_is : final_sum K (low k) (carried F (low k) (elements 𝓕 o) (length (elements 𝓕 r))) (elements 𝓕 z) (elements 𝓕 r)
          ≡ over_corners K (low k) (λ x. poly K (elements 𝓕 (final_words d k o)) x ⊠ eq K (elements 𝓕 z) (x ++ elements 𝓕 r))
      unfolding final_sum
      final_is = ap (λ v. final_sum K (low k) v (elements 𝓕 z) (elements 𝓕 r)) carried_is

      base_is : (j : ℕ) → j < n → get_or (encode F C 0 (carried F (low k) (elements 𝓕 o) (length (elements 𝓕 r)))) j K.𝟘
          ≡ sums.sum K k (λ b. final_element 𝓕 d k o b ⊠ el (get_or g (b * n + j) 0))
      base_is j h =
          ap (λ v. get_or (encode F C 0 v) j K.𝟘) carried_is ∙ encode_base 𝓕 C k n (final_words d k o) g refl refl j
          ∙ base_sum 𝓕 k n g (omega (arith, 𝓚.matrix)) (final_words d k o) carried_length j h

      line_is : (i u : ℕ) → line F (get_or (elements 𝓕 r) i K.𝟘) (get_or (elements 𝓕 (diagonal n t i)) u K.𝟘) (get_or (elements 𝓕 (diagonal n t' i)) u K.𝟘)
          (get_or (block_of n (low k) (length (elements 𝓕 r)) (elements 𝓕 w) (elements 𝓕 o) (suc i)) u K.𝟘)
          (get_or (block_of n (low k) (length (elements 𝓕 r)) (elements 𝓕 w) (elements 𝓕 o) (suc i)) (size F C i + u) K.𝟘)
          ≡ line F (el (get_or r i 0)) (el (get_or (diagonal n t i) u 0)) (el (get_or (diagonal n t' i) u 0)) (block_element 𝓕 d c k w o (suc i) u) (block_element 𝓕 d c k w o (suc i) (u + block_size n i))
      line_is i u =
          λ j. line F (get_or_elements 𝓕 r i j) (get_or_elements 𝓕 (diagonal n t i) u j) (get_or_elements 𝓕 (diagonal n t' i) u j) (block_is (suc i) u j)
          ((block_is (suc i) (size F C i + u) ∙ ap (block_element 𝓕 d c k w o (suc i)) (add_comm (size F C i) u)) j)

      equations : Equations F (low k) C (elements 𝓕 w) (elements 𝓕 z) (el y) (elements 𝓕 r) us (elements 𝓕 o) ↔ Accepts 𝓕 d c k g t t' w z y r us o
      equations = (
        λ e. record {
          sum = λ i l m. sym (ap₂ ◌⊞◌ (sent_is i 0) (sent_is i 1)) ∙ e.sum i l (omega (arith, depth)) ∙ claim_is i;
          final = sym final_is ∙ e.final ∙ claim_is 0;
          base = λ j l. sym (block_is 0 j) ∙ e.base j l ∙ base_is j l;
          fold = λ q i u l m p. sym (line_is i u) ∙ e.fold q i u l (omega (arith, depth)) p ∙ block_is i u;
        },
        λ a. record {
          sum = λ i l m. ap₂ ◌⊞◌ (sent_is i 0) (sent_is i 1) ∙ a.sum i l (omega (arith, depth)) ∙ sym (claim_is i);
          final = final_is ∙ a.final ∙ sym (claim_is 0);
          base = λ j l. block_is 0 j ∙ a.base j l ∙ sym (base_is j l);
          fold = λ q i u l m p. line_is i u ∙ a.fold q i u l (omega (arith, depth)) p ∙ sym (block_is i u);
        },
      )

    none_exactly : judged ≡ done tt
        → (first_failure (checks F (low k) C (elements 𝓕 w) (elements 𝓕 z) (el y) (elements 𝓕 r) us (elements 𝓕 o)) ≡ none) ↔ Accepts 𝓕 d c k g t t' w z y r us o
    none_exactly e =
        let 𝓚 = known e in
        let legal : Queries n (length (elements 𝓕 r)) us = rw (depth 𝓚) (legal_queries d n us 𝓚.asked) in
        Iff.trans (none_fails_exactly F (low k) C (elements 𝓕 w) (elements 𝓕 z) (el y) (elements 𝓕 r) us (elements 𝓕 o) legal) (equations 𝓚)

    -- the verifier answers 0 exactly when nothing is refused and every equation holds
    pub accepts_exactly : (numbers_of (verification 𝓕 d c k g t t' w z y r us o) ≡ (0, 0, 0)) ↔ ((judge_verifying 𝓕 d c k g t t' w z y r us o ≡ done tt) × Accepts 𝓕 d c k g t t' w z y r us o)
    unfolding verification
    accepts_exactly = (
      λ e. let s = accepted_split judged _ refusals e in (s.0, (none_exactly s.0).0 s.1),
      λ h. ap₂ (λ j f. numbers_of (j ⨾ done f)) h.0 ((none_exactly h.0).1 h.1),
    )

    -- the verifier names a check exactly when nothing is refused and that check is the first that fails
    pub rejects_exactly : (b : Check) → (numbers_of (verification 𝓕 d c k g t t' w z y r us o) ≡ check_numbers b)
        ↔ ((judge_verifying 𝓕 d c k g t t' w z y r us o ≡ done tt) × FailsFirst (checks F (low k) (lent_rows 𝓕 k (base_size c k) g t t') (elements 𝓕 w) (elements 𝓕 z) (el y) (elements 𝓕 r) us (elements 𝓕 o)) b)
    unfolding verification
    rejects_exactly b =
        let e = first_exactly (checks F (low k) C (elements 𝓕 w) (elements 𝓕 z) (el y) (elements 𝓕 r) us (elements 𝓕 o)) b in (
          λ q. let s = named_split judged _ b refusals q in (s.0, e.0 s.1),
          λ h. ap₂ (λ j f. numbers_of (j ⨾ done f)) h.0 (e.1 h.1),
        )
