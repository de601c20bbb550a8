-- The job of writing an opening: its answer, its result and its work buffer, for every input. Assumes nothing.
use Rattle.std.specs.Prelude.{◌≡◌, Bool, ◌&&◌, List, [], ◌∷◌, ℕ, ◌*◌, eqb, length, replicate, Result}
use Rattle.algebra.specs.Words.{PrimeField}
use Rattle.algebra.specs.WordLists.{elements}
use Rattle.job.specs.declared.Input.TheVariants.{Block, Z, R}
use Rattle.job.specs.Outcome.{Outcome, refused, done, outcome, ◌⨾◌, kept}
use Rattle.multilinear.specs.Polynomial.{poly}
use Rattle.words.specs.Scans.{all_below}
use Rattle.job.specs.Sizes.{base_size, message_size, low, point_size, opening_size}
use Rattle.base_parameters.specs.Parameters.{row_lengths, judge_rows}
use Rattle.base_rounds.specs.RowOpening.{opening_rows}
use Rattle.job.specs.declared.Refusal.{Refusal}

-- of the lengths of message, point and challenges
unfoldable pub input_lengths : ℕ → ℕ → ℕ → ℕ → ℕ → Bool
input_lengths d k m z r = eqb m (message_size d k) && (eqb z (point_size d k) && eqb r d)

-- of the lengths of opening and work
unfoldable pub buffer_lengths : ℕ → ℕ → ℕ → ℕ → ℕ → Bool
buffer_lengths d c k o s = eqb o (opening_size d c k) && eqb s (2 * message_size d k)

unfoldable pub write_lengths : ℕ → ℕ → ℕ → ℕ → ℕ → ℕ → ℕ → ℕ → ℕ → ℕ → ℕ → Bool
write_lengths d c k g t t' m z r o s = row_lengths d c k g t t' && (input_lengths d k m z r && buffer_lengths d c k o s)

module _ (𝓕 : PrimeField) where
  open 𝓕 use {field as F, words as W}
  open F use {ring as K}
  open W use {val as word}

  -- of the words of message, point and challenges, as one flag
  unfoldable pub input_words : List ℕ → List ℕ → List ℕ → Bool
  input_words m z r = all_below 𝓕 m && (all_below 𝓕 z && all_below 𝓕 r)

  -- the outcome, with an opening of o words and a work buffer of s
  unfoldable pub judge_writing : ℕ → ℕ → ℕ → List ℕ → List ℕ → List ℕ → List ℕ → List ℕ → List ℕ → ℕ → ℕ → Outcome (Unit {0})
  judge_writing d c k g t t' m z r o s =
      judge_rows 𝓕 d c k g t t' (write_lengths d c k (length g) (length t) (length t') (length m) (length z) (length r) o s) ((Block, m) ∷ (Z, z) ∷ (R, r) ∷ [])

  -- the word of f(z)
  abbrev pub value_word : List ℕ → List ℕ → ℕ
  value_word m z = word (poly K (elements 𝓕 m) (elements 𝓕 z))

  -- the words of the opening of m, at rate c and with k words a base message
  abbrev pub opening_words : ℕ → ℕ → List ℕ → List ℕ → List ℕ → List ℕ → List ℕ → List ℕ → List ℕ
  opening_words c k g t t' m z r = opening_rows 𝓕 (low k) k (base_size c k) g t t' m z r

  -- answer a, opening o' and work s': refused as above, and both as they were; or f(z), the opening as it is defined, and zeros
  pub record Wrote (d c k : ℕ) (g t t' m z r o s : List ℕ) (a : Result ℕ Refusal) (o' s' : List ℕ) : Type 0 where
    pub answer : outcome a ≡ judge_writing d c k g t t' m z r (length o) (length s) ⨾ done (value_word m z)
    pub result : o' ≡ kept (judge_writing d c k g t t' m z r (length o) (length s)) o (opening_words c k g t t' m z r)
    pub work : s' ≡ kept (judge_writing d c k g t t' m z r (length o) (length s)) s (replicate (length s) 0)
