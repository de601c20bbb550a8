-- The job of folding a block by one level: its refusals, its answer and what it writes, for every input. Definitions only. Assumes nothing.
use Rattle.std.specs.Prelude.{◌≡◌, List, [], ◌∷◌, ℕ, ◌-◌, length}
use Rattle.algebra.specs.Words.{PrimeField}
use Rattle.job.specs.Limits.{rate_ok, block_size}
use Rattle.job.specs.Sizes.{k0_ok, base_size}
use Rattle.job.specs.Outcome.{Outcome, require, ◌⨾◌, kept, outcome}
use Rattle.job.specs.Outcome.{Answer}
use Rattle.job.specs.declared.Input.TheVariants.{T, T2, Block, R}
use Rattle.places.specs.Inputs.{Lent, judge_words, no_equal}
use Rattle.lines.specs.Folds.{fold_words}
use Rattle.fold_limits.specs.Limits.{level_ok, lengths_ok}

-- what is lent, in its order: a challenge counts as r, of one word
abbrev pub fold_inputs : List ℕ → List ℕ → List ℕ → ℕ → List Lent
fold_inputs t t2 block a = (T, t) ∷ (T2, t2) ∷ (Block, block) ∷ (R, a ∷ []) ∷ []

module _ (𝓕 : PrimeField) where
  -- the outcome that is due
  unfoldable pub judge_folding : ℕ → ℕ → ℕ → List ℕ → List ℕ → List ℕ → ℕ → ℕ → Outcome (Unit {0})
  judge_folding level rate k t t2 block a out =
      require (level_ok k level) 1 ⨾ require (rate_ok rate) 2 ⨾ require (k0_ok k) 13
      ⨾ require (lengths_ok level (base_size rate k) (length t) (length t2) (length block) out) 3
      ⨾ judge_words 𝓕 (fold_inputs t t2 block a) ⨾ no_equal t t2

  -- the answer r, and the result, which held old
  pub record Folded (level rate k : ℕ) (t t2 block : List ℕ) (a : ℕ) (old : List ℕ) (r : Answer) (out : List ℕ) : Type 0 where
    pub answer : outcome r ≡ judge_folding level rate k t t2 block a (length old)
    pub result : out ≡ kept (judge_folding level rate k t t2 block a (length old)) old (fold_words 𝓕 (block_size (base_size rate k) (level - 1)) t t2 block a)
