-- Which place a refused job names that is lent a base matrix and diagonals: 4, 5 and 6; and that its refusals are 1 to 6 and 13. The theorem that it is so is in proofs/NamedRows. Assumes nothing.
use Rattle.std.specs.Prelude.{◌≡◌, Bool, ◌↔◌, List, ◌++◌, ℕ, ◌+◌, ◌≤◌, ◌<◌, get_or}
use Rattle.std.proofs.Common.{sym, ◌∙◌, arith, eqb-true}
use Rattle.std.proofs.lemmas.Bool.{not-false}
use Rattle.algebra.specs.Words.{PrimeField}
use Rattle.job.specs.Outcome.{Numbers, Outcome, refused, done, require, ◌⨾◌}
use Rattle.job.specs.OutcomeLaws.{require_number, demand_number, after_number}
use Rattle.job.specs.Limits.{rate_ok, block_size, diagonals_size}
use Rattle.words.specs.Scans.{all_differ}
use Rattle.places.specs.Inputs.{Lent, judge_words, FirstWord, FirstEqual}
use Rattle.places.specs.InputLaws.{first_word}
use Rattle.parameters.specs.Lent.{diagonal}
use Rattle.parameters.specs.LentLaws.{get_or_diagonal}
use Rattle.parameters.specs.Parameters.{row_inputs}
use Rattle.job.specs.Sizes.{k0_ok, depth_ok, limits, base_size}
use Rattle.base_parameters.specs.Parameters.{legal_base, judge_rows}
use Rattle.base_parameters.specs.ParameterLaws.{base_number}

-- 1, 2, 13 and 3, by the test of all lengths
abbrev pub sizes : ℕ → ℕ → ℕ → Bool → Outcome (Unit {0})
sizes d c k l = limits d c k ⨾ require l 3

-- o is refused with 4, 5 or 6 exactly where nothing before is due; 4 names the first word that is not below the modulus, by its index in its input as lent and by its input,
-- 5 what is due for the base matrix, 6 the first place where T and T' as lent have the same word
pub record RowsNamed (𝓕 : PrimeField) (d c k : ℕ) (g t t' : List ℕ) (l : Bool) (xs : List Lent) (o : Outcome (Unit {0})) : Type 0 where
  pub four : (j n : ℕ) → (o ≡ refused (4, j, n)) ↔ ((sizes d c k l ≡ done tt) × FirstWord 𝓕 (row_inputs g t t' ++ xs) j n)
  pub five : (j n : ℕ) → (o ≡ refused (5, j, n))
      ↔ ((sizes d c k l ≡ done tt) × (judge_words 𝓕 (row_inputs g t t' ++ xs) ≡ done tt) × (legal_base 𝓕 k (base_size c k) g ≡ refused (5, j, n)))
  pub six : (j n : ℕ) → (o ≡ refused (6, j, n))
      ↔ ((sizes d c k l ≡ done tt) × (judge_words 𝓕 (row_inputs g t t' ++ xs) ≡ done tt) × (legal_base 𝓕 k (base_size c k) g ≡ done tt) × FirstEqual t t' j × (n ≡ 0))

-- in T as lent, place j of level i is place m (2^i - 1) + j, where a base block has m words: there the two levels have the same word
pub equal_in_level : (m i j : ℕ) (t t' : List ℕ) → j < block_size m i → FirstEqual t t' (diagonals_size m i + j) → get_or (diagonal m t i) j 0 ≡ get_or (diagonal m t' i) j 0
equal_in_level m i j t t' h f =
    get_or_diagonal m i t j h ∙ eqb-true (get_or t (diagonals_size m i + j) 0) (get_or t' (diagonals_size m i + j) 0) (not-false _ f.failing) ∙ sym (get_or_diagonal m i t' j h)

-- its refusals are 1 to 6 and 13
module _ (𝓕 : PrimeField) (Q : ℕ → Type 0) (q : (k : ℕ) → 1 ≤ k → k ≤ 6 → Q k) (last : Q 13) where
  pub judge_number : (d c k : ℕ) (g t t' : List ℕ) (l : Bool) (xs : List Lent) {n : Numbers} → judge_rows 𝓕 d c k g t t' l xs ≡ refused n → Q n.0
  judge_number d c k g t t' l xs =
      after_number Q (limits d c k)
      (after_number Q (require (depth_ok k d) 1) (is (depth_ok k d) 1 (omega arith) (omega arith))
      (after_number Q (require (rate_ok c) 2) (is (rate_ok c) 2 (omega arith) (omega arith)) (require_number Q (k0_ok k) 13 last)))
      (after_number Q (require l 3) (is l 3 (omega arith) (omega arith))
      (after_number Q (judge_words 𝓕 (row_inputs g t t' ++ xs)) (λ e. rw (first_word 𝓕 (row_inputs g t t' ++ xs) e).0 (q 4 (omega arith) (omega arith)))
      (after_number Q (legal_base 𝓕 k (base_size c k) g) (λ e. rw (base_number 𝓕 k (base_size c k) g e) (q 5 (omega arith) (omega arith))) (demand_number Q (all_differ t t') _ (q 6 (omega arith) (omega arith))))))
    where
      is : (b : Bool) (k : ℕ) → 1 ≤ k → k ≤ 6 → {n : Numbers} → require b k ≡ refused n → Q n.0
      is b k lo hi e = require_number Q b k (q k lo hi) e
