-- What the job from a table to its coefficients answers, and what it leaves in the buffer. Assumes nothing.
use Rattle.std.specs.Prelude.{◌≡◌, List, map, ℕ, ◌^◌, eqb, ℤ, length}
use Rattle.algebra.specs.Tests.{all}
use Rattle.algebra.specs.Words.{PrimeField}
use Rattle.algebra.specs.WordLists.{Low, elements}
use Rattle.multilinear.specs.Table.{table}
use Rattle.job.specs.Outcome.{Answer}
use Rattle.job.specs.Outcome.{Outcome, refused, done, require, ◌⨾◌, outcome}
use Rattle.job.specs.Sizes.{k0_ok}
use Rattle.residue.specs.Elements.{P, K, el}
use Rattle.clearance.specs.Clearances.{in_range, residue_of}
use Rattle.table_length.specs.Depth.{exponent, table_ok}

-- the buffer is as it was where a refusal is due, and else as made
abbrev pub Leaves : {A B : Type 0} → Outcome A → (old new : List B) → Type 0 → Type 0
Leaves (refused n) old new made = new ≡ old
Leaves (done a) old new made = made

module _ (𝓕 : PrimeField) where
  -- the outcome for a table, with k words a base message, and for the length of the message's buffer
  abbrev pub judge_table : ℕ → List ℤ → ℕ → Outcome (Unit {0})
  judge_table k t n = require (table_ok k (length t)) 1 ⨾ require (k0_ok k) 13 ⨾ require (eqb n (length t)) 3 ⨾ require (all (in_range 𝓕) t) 9

  -- m is the message of the table t: the polynomial with these coefficients has entry b as its value at corner b
  pub record MessageOf (t : List ℤ) (m : List ℕ) : Type 0 where
    pub size : length m ≡ 2 ^ exponent (length t)
    pub low : Low (P 𝓕) m
    pub values : table (K 𝓕) (exponent (length t)) (elements 𝓕 m) ≡ map (λ x. el 𝓕 (residue_of 𝓕 x)) t

  pub record ToCoefficients (k : ℕ) (t : List ℤ) (old new : List ℕ) (r : Answer) : Type 0 where
    pub answer : outcome r ≡ judge_table k t (length old)
    pub message : Leaves (judge_table k t (length old)) old new (MessageOf t new)
