-- The job of filling: which rates have a rule, its answer, and what it leaves in the three slices, for every input. Definitions only. Assumes nothing.
use Rattle.std.specs.Prelude.{◌≡◌, Bool, cond, List, ℕ, zero, suc, ◌^◌, eqb, length, Option, Some, None}
use Rattle.job.specs.Outcome.{Answer}
use Rattle.job.specs.Outcome.{Outcome, outcome, require, ◌⨾◌, kept}
use Rattle.job.specs.Limits.{rate_ok}
use Rattle.job.specs.Sizes.{depth_ok}
use Rattle.base_parameters.specs.Parameters.{row_lengths}
use Rattle.root_rows.specs.Rule.{ones_words, first_words, negative_words}

-- c is a power of two
pub record TwoPower (c : ℕ) : Type 0 where
  pub log : ℕ
  pub is : c ≡ 2 ^ log

-- the e from 1 to k with c = 2^e; 0 where there is none
unfoldable pub exponent_to : ℕ → ℕ → ℕ
exponent_to zero c = 0
exponent_to (suc k) c = cond (eqb c (2 ^ suc k)) (suc k) (exponent_to k c)

-- an exponent is below its power
abbrev pub exponent : ℕ → ℕ
exponent c = exponent_to c c

-- the test for 12
abbrev pub is_two_power : ℕ → Bool
is_two_power c = eqb c (2 ^ exponent c)

-- the exponent of a power of two
abbrev pub exponent_found : ℕ → Option ℕ
exponent_found c = cond (is_two_power c) (Some (exponent c)) None

-- the outcome at depth d, rate c and k words a base message, of which this rule has one, for slices of g, t and t' words
abbrev pub judge_filling : (d c k g t t' : ℕ) → Outcome (Unit {0})
judge_filling d c k g t t' =
    require (depth_ok 1 d) 1 ⨾ require (rate_ok c) 2 ⨾ require (eqb k 1) 13 ⨾ require (row_lengths d c 1 g t t') 3 ⨾ require (is_two_power c) 12

-- lent g, t and t', answered r, and left g₁, t₁ and t₁': refused as above, and all three as they were; or as the rule says
pub record RootsFilled (d c k : ℕ) (g t t' : List ℕ) (r : Answer) (g₁ t₁ t₁' : List ℕ) : Type 0 where
  pub answer : outcome r ≡ judge_filling d c k (length g) (length t) (length t')
  pub row : g₁ ≡ kept (judge_filling d c k (length g) (length t) (length t')) g (ones_words c)
  pub first : t₁ ≡ kept (judge_filling d c k (length g) (length t) (length t')) t (first_words (exponent c) d)
  pub second : t₁' ≡ kept (judge_filling d c k (length g) (length t) (length t')) t' (negative_words (first_words (exponent c) d))
