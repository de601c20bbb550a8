-- What the flags of a call promise, and what is lent to the writer where nothing is refused. Assumes nothing.
use mathlib.Core.Path.{◌≡◌, refl, sym, ◌∙◌}
use mathlib.Core.Bool.{Bool, true, ◌&&◌}
use mathlib.Core.List.{List, []}
use Prim.Native.Nat.{ℕ}
use native.Mathlib.Omega.{arith}
use lib.ListN.{length}
use Rattle.algebra.specs.Words.{PrimeField}
use Rattle.algebra.specs.Tests.{and_both}
use Rattle.job.specs.Outcome.{done}
use Rattle.job.specs.OutcomeLaws.{pass_demand}
use Rattle.job.specs.Sizes.{in_limits, base_size, low}
use Rattle.job.specs.SizeLaws.{limits_within, within, low_most}
use Rattle.words.specs.Scans.{all_below}
use Rattle.places.specs.Inputs.{judge_words}
use Rattle.parameters.specs.Parameters.{Sized, RowScanned}
use Rattle.base_parameters.specs.Parameters.{Flagged}
use Rattle.base_parameters.specs.ParameterLaws.{row_short, flagged}
use Rattle.base_rounds.specs.RowOpening.{WriteInput}
use Rattle.open.specs.Writing.{write_lengths, input_words, judge_writing}
use Rattle.open.specs.WritingLaws.{write_inputs, write_lengths_lem, Writable, writing_exactly, write_input}

module _ (𝓕 : PrimeField) where
  -- the flag of all words, where it is set
  pub words_below : (m z r : List ℕ) {row words : Bool} → words ≡ (row && input_words 𝓕 m z r) → words ≡ true → (row ≡ true) × (judge_words 𝓕 (write_inputs m z r) ≡ done tt)
  unfolding input_words
  words_below m z r {row} e f =
      let w = and_both row _ (sym e ∙ f) in
      let p = and_both (all_below 𝓕 m) _ w.1 in
      let q = and_both (all_below 𝓕 z) _ p.1 in
      (w.0, sym (pass_demand _ p.0 (pass_demand _ q.0 (pass_demand _ q.1 refl))))

  -- where the lengths are right, each word has an index and the base matrix its length; where the words are, so are those of the base matrix
  pub write_flagged : (d c k : ℕ) (g t t' m z r : List ℕ) (o s : ℕ) {l row apart words : Bool}
      → l ≡ (in_limits d c k && write_lengths d c k (length g) (length t) (length t') (length m) (length z) (length r) o s) → RowScanned 𝓕 l g t t' row apart
      → words ≡ (row && input_words 𝓕 m z r) → Sized l g t t' m z [] r [] × Flagged 𝓕 c k g l words
  write_flagged d c k g t t' m z r o s {l} {row} e 𝓢 h = (
    λ f. let a = and_both (in_limits d c k) _ (sym e ∙ f) in
        let p = (write_lengths_lem d c k (length g) (length t) (length t') (length m) (length z) (length r) o s).0 a.1 in
        let 𝓛 = p.1 in
        let 𝓦 = within d c k a.0 in
        row_short d c k g t t' m z [] r [] a.0 p.0
        (omega (arith, 𝓛.message, 𝓦.message)) (omega (arith, 𝓛.point, 𝓦.depth, low_most k)) (omega arith) (omega (arith, 𝓛.challenges, 𝓦.depth)) (omega arith),
    flagged 𝓕 d c k g t t' (λ f. ((write_lengths_lem d c k (length g) (length t) (length t') (length m) (length z) (length r) o s).0 (and_both (in_limits d c k) _ (sym e ∙ f)).1).0) 𝓢
        (λ f. (and_both row _ (sym h ∙ f)).0),
  )

  -- the job's tests have passed
  module _ (d c k : ℕ) (g t t' m z r : List ℕ) (o s : ℕ) (e : judge_writing 𝓕 d c k g t t' m z r o s ≡ done tt) where
    writable : Writable 𝓕 d c k g t t' m z r o s
    writable = (writing_exactly 𝓕 d c k g t t' m z r o s).0 e

    pub all_within : in_limits d c k ≡ true
    all_within = limits_within d c k writable.rows.within

    -- of the variables inside a base message and of the words of a base block, as they are computed
    pub may_write : {l n : ℕ} → l ≡ low k → n ≡ base_size c k → WriteInput 𝓕 d l k n g t t' m z r o s
    may_write el en = rw (el, en) (write_input 𝓕 d c k g t t' m z r o s writable)
