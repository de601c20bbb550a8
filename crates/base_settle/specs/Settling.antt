-- The answer and the result for a block for which no refusal before 8 is due. Definitions only. Assumes nothing.
use Rattle.std.specs.Prelude.{◌≡◌, List, ℕ, ◌*◌, ◌^◌, length}
use Rattle.algebra.specs.Words.{PrimeField}
use Rattle.algebra.specs.WordLists.{Low, elements}
use Rattle.foldable.specs.Code.{Codeword}
use Rattle.job.specs.Outcome.{Answer}
use Rattle.job.specs.Outcome.{refused, done, outcome}
use Rattle.base_spread.specs.LentRows.{lent_rows, codeword_rows}

module _ (𝓕 : PrimeField) where
  open 𝓕 use {modulus as P, field as F}

  -- answer r and result out for a block of a code of k base rows of n words: out is a message whose codeword it is; or it is no
  -- codeword, and out is as it was
  pub data Settled (d k n : ℕ) (g t t' b old : List ℕ) (r : Answer) (out : List ℕ) : Type 0 where
    message : outcome r ≡ done tt → length out ≡ k * 2 ^ d → Low P out → codeword_rows 𝓕 d k n g t t' out ≡ b → Settled d k n g t t' b old r out
    none : outcome r ≡ refused (8, 0, 0) → (Codeword F (lent_rows 𝓕 k n g t t') d (elements 𝓕 b) → ⊥) → out ≡ old → Settled d k n g t t' b old r out
