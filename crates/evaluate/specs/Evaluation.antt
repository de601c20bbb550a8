-- The job of evaluation: its answer for every input. Assumes nothing.
use Rattle.std.specs.Prelude.{Bool, ◌&&◌, List, [], ◌∷◌, ℕ, eqb, length}
use Rattle.algebra.specs.Words.{PrimeField}
use Rattle.algebra.specs.WordLists.{elements}
use Rattle.job.specs.declared.Input.TheVariants.{Block, Z}
use Rattle.job.specs.Outcome.{Outcome, done, require, ◌⨾◌}
use Rattle.job.specs.Sizes.{k0_ok, depth_ok, message_size, point_size}
use Rattle.multilinear.specs.Polynomial.{poly}
use Rattle.places.specs.Inputs.{Lent, judge_words}

-- of the lengths of message and point
unfoldable pub evaluate_lengths : ℕ → ℕ → ℕ → ℕ → Bool
evaluate_lengths d k m z = eqb m (message_size d k) && eqb z (point_size d k)

-- what is lent, in its order: a message counts as the block
abbrev pub evaluate_inputs : List ℕ → List ℕ → List Lent
evaluate_inputs m z = (Block, m) ∷ (Z, z) ∷ []

module _ (𝓕 : PrimeField) where
  open 𝓕 use {field as F, words as W}
  open F use {ring as K}
  open W use {val as word}

  unfoldable pub judge_evaluating : ℕ → ℕ → List ℕ → List ℕ → Outcome (Unit {0})
  judge_evaluating d k m z =
      require (depth_ok k d) 1 ⨾ require (k0_ok k) 13 ⨾ require (evaluate_lengths d k (length m) (length z)) 3 ⨾ judge_words 𝓕 (evaluate_inputs m z)

  -- the polynomial's value at the point
  abbrev pub evaluation : ℕ → ℕ → List ℕ → List ℕ → Outcome ℕ
  evaluation d k m z = judge_evaluating d k m z ⨾ done (word (poly K (elements 𝓕 m) (elements 𝓕 z)))
