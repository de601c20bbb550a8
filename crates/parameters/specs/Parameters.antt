-- What the tests of a base matrix and the diagonals of all levels ask of their words. Definitions only. Assumes nothing.
use Rattle.std.specs.Prelude.{◌≡◌, Bool, true, ◌&&◌, List, [], ◌∷◌, ℕ}
use Rattle.algebra.specs.Words.{PrimeField}
use Rattle.job.specs.declared.Input.TheVariants.{G, T, T2}
use Rattle.words.specs.Scans.{all_below, all_differ}
use Rattle.places.specs.Inputs.{Lent, Short}
use Rattle.places.specs.declared.inputs.Inputs.{Inputs}

-- base matrix and diagonals, the first of a job's inputs
abbrev pub row_inputs : List ℕ → List ℕ → List ℕ → List Lent
row_inputs g t t' = (G, g) ∷ (T, t) ∷ (T2, t') ∷ []

module _ (𝓕 : PrimeField) where
  unfoldable pub row_words : List ℕ → List ℕ → List ℕ → Bool
  row_words g t t' = all_below 𝓕 g && (all_below 𝓕 t && all_below 𝓕 t')

  -- what one pass over them finds: the flags for 4 and 6, where the lengths are right
  pub record RowScanned (lengths : Bool) (g t t' : List ℕ) (words apart : Bool) : Type 0 where
    pub words_is : words ≡ (lengths && row_words g t t')
    pub apart_is : apart ≡ (lengths && all_differ t t')

-- where the lengths are right, each word has an index
abbrev pub Sized : Bool → (g t t' w z y r o : List ℕ) → Type 0
Sized lengths g t t' w z y r o = lengths ≡ true → Short g t t' w z y r o

abbrev pub AllSized : Bool → Inputs → Type 0
AllSized lengths i = Sized lengths i.g.now i.t.now i.t2.now i.block.now i.z.now i.y.now i.r.now i.opening.now
