-- What the job from coefficients to their table answers, and what it leaves in the buffers. Assumes nothing.
use Rattle.std.specs.Prelude.{◌≡◌, ◌&&◌, List, [], ◌∷◌, map, ℕ, eqb, ℤ, length, replicate}
use Rattle.algebra.specs.Words.{PrimeField}
use Rattle.algebra.specs.WordLists.{elements, to_words}
use Rattle.multilinear.specs.Table.{table}
use Rattle.job.specs.Outcome.{Answer}
use Rattle.job.specs.declared.Input.TheVariants.{Block}
use Rattle.job.specs.Outcome.{Outcome, require, ◌⨾◌, outcome, kept}
use Rattle.job.specs.Sizes.{k0_ok}
use Rattle.residue.specs.Elements.{K}
use Rattle.places.specs.Inputs.{judge_words}
use Rattle.clearance.specs.Clearances.{clearance_of}
use Rattle.table_length.specs.Depth.{exponent, table_ok}

module _ (𝓕 : PrimeField) where
  -- the outcome for a message, which counts as the block, and for the lengths of the clearances' and the work buffer
  abbrev pub judge_message : ℕ → List ℕ → ℕ → ℕ → Outcome (Unit {0})
  judge_message k m n w = require (table_ok k (length m)) 1 ⨾ require (k0_ok k) 13 ⨾ require (eqb n (length m) && eqb w (length m)) 3 ⨾ judge_words 𝓕 ((Block, m) ∷ [])

  -- the table of a message, as clearances
  abbrev pub table_of : List ℕ → List ℤ
  table_of m = map (clearance_of 𝓕) (to_words 𝓕 (table (K 𝓕) (exponent (length m)) (elements 𝓕 m)))

  pub record ToTable (k : ℕ) (m : List ℕ) (old new : List ℤ) (work left : List ℕ) (r : Answer) : Type 0 where
    pub answer : outcome r ≡ judge_message k m (length old) (length work)
    pub clearances : new ≡ kept (judge_message k m (length old) (length work)) old (table_of m)
    pub cleared : left ≡ kept (judge_message k m (length old) (length work)) work (replicate (length work) 0)
