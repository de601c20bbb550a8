-- Refusals that name a place: 4 for a word that is not below the modulus, in the first input that has one; 5 and 6 for base row and diagonals.
-- Definitions only. Assumes nothing.
use Rattle.std.specs.Prelude.{◌≡◌, true, not, List, [], ◌∷◌, ℕ, ◌<◌, ◌≤◌, min, ltb, eqb, length, get_or}
use Rattle.algebra.specs.Words.{PrimeField}
use Rattle.job.specs.declared.Input.{Input}
use Rattle.job.specs.declared.Input.TheVariants.{G, T, T2, Block, Z, Y, R, Opening}
use Rattle.job.specs.declared.Refusal.TheVariants.{Word, BaseRow, Diagonals}
use Rattle.job.specs.Outcome.{Outcome, done, input_number, due, demand, ◌⨾◌}
use Rattle.words.specs.Scans.{all_below, none_zero, all_differ}
use Rattle.places.specs.Places.{First, high_place, zero_place, equal_place}

-- an input, and its words as lent
abbrev pub Lent : Type 0
Lent = Input × List ℕ

-- the inputs of a call in their order; one that it is not lent is empty
abbrev pub in_order : (g t t' w z y r o : List ℕ) → List Lent
in_order g t t' w z y r o = (G, g) ∷ (T, t) ∷ (T2, t') ∷ (Block, w) ∷ (Z, z) ∷ (Y, y) ∷ (R, r) ∷ (Opening, o) ∷ []

module _ (𝓕 : PrimeField) where
  open 𝓕 use {modulus as P}

  -- 4, for one input: the first word of it that is not below the modulus
  abbrev pub below : Lent → Outcome (Unit {0})
  below x = demand (all_below 𝓕 x.1) (due (Word x.0 (high_place P x.1)))

  -- and for all inputs of a call: a link for each, in their order
  abbrev pub judge_words : List Lent → Outcome (Unit {0})
  judge_words [] = done tt
  judge_words (x ∷ xs) = below x ⨾ judge_words xs

  -- what is named then: in every input before the k-th each word is below the modulus, and in the k-th, whose number is n, each before place j, which is not
  pub record FirstWord (xs : List Lent) (j n : ℕ) : Type 0 where
    pub k : ℕ
    pub within : k < length xs
    pub before : (i : ℕ) → i < k → all_below 𝓕 (get_or xs i (G, [])).1 ≡ true
    pub number : input_number (get_or xs k (G, [])).0 ≡ n
    pub place : First (λ i. ltb (get_or (get_or xs k (G, [])).1 i 0) P) (length (get_or xs k (G, [])).1) j

-- 5: the first zero of the base row
abbrev pub no_zero : List ℕ → Outcome (Unit {0})
no_zero g = demand (none_zero g) (due (BaseRow (zero_place g)))

-- 6: the first place where the diagonals are equal
abbrev pub no_equal : List ℕ → List ℕ → Outcome (Unit {0})
no_equal t t' = demand (all_differ t t') (due (Diagonals (equal_place t t')))

-- what they name: no word before place k is 0, and that at k is; the words at each place before k differ, and those at k do not
abbrev pub FirstZero : List ℕ → ℕ → Type 0
FirstZero g k = First (λ j. not (eqb (get_or g j 0) 0)) (length g) k

abbrev pub FirstEqual : List ℕ → List ℕ → ℕ → Type 0
FirstEqual t t' k = First (λ j. not (eqb (get_or t j 0) (get_or t' j 0))) (min (length t) (length t')) k

-- as many words as can be counted in 32 bits, so that each has an index
abbrev pub max_words : ℕ
max_words = 4294967295

pub record Short (g t t' w z y r o : List ℕ) : Type 0 where
  pub row : length g ≤ max_words
  pub first : length t ≤ max_words
  pub second : length t' ≤ max_words
  pub block : length w ≤ max_words
  pub point : length z ≤ max_words
  pub claim : length y ≤ max_words
  pub challenges : length r ≤ max_words
  pub opening : length o ≤ max_words
