-- Encoding, writing and verifying, one after the other: the verdict is 0 wherever no refusal is due.
--     commit_accepted
-- Assumes nothing.
use Rattle.std.specs.Prelude.{◌≡◌, refl, true, ◌&&◌, List, [], ◌∷◌, ℕ, length, replicate, Result, Ok, Err}
use Rattle.std.proofs.Common.{sym, ap, ap₂, ◌∙◌, arith}
use Rattle.std.proofs.Math.Option.{Option}
use Rattle.std.proofs.Math.Dec.{eqb}
use borrow.Author.Tests.{eqb-true}
use Rattle.algebra.specs.Words.{PrimeField}
use Rattle.algebra.specs.Tests.{and_both}
use Rattle.algebra.specs.WordLists.{Low}
use Rattle.basefold.specs.Checks.{Check}
use Rattle.job.specs.declared.Input.TheVariants.{Block, Z, R}
use Rattle.job.specs.declared.Refusal.{Refusal}
use Rattle.job.specs.Outcome.{Answer, Numbers, Outcome, refused, done, due, outcome, kept, ◌⨾◌}
use Rattle.job.specs.OutcomeLaws.{demand_done, same_refusal}
use Rattle.job.specs.Limits.{block_size}
use Rattle.job.specs.Sizes.{base_size, message_size, point_size}
use Rattle.words.specs.Scans.{all_below}
use Rattle.words.specs.ScanLaws.{all_below_lem}
use Rattle.base_parameters.specs.Parameters.{row_lengths, LegalRows}
use Rattle.base_parameters.specs.ParameterLaws.{RowsPassed, rows_passed, legal_passed}
use Rattle.base_spread.specs.LentRows.{codeword_rows}
use Rattle.encode.specs.Encoding.{encode_lengths, judge_encoding, Encoded}
use Rattle.open.specs.Writing.{judge_writing, write_lengths, input_lengths, buffer_lengths, value_word, opening_words, Wrote}
use Rattle.verdict.specs.Verdicts.{numbers, numbers_of}
use Rattle.verify.specs.Verifying.{verification}
use Rattle.verdict.specs.declared.Verdict.{Verdict}
use Rattle.laws.specs.Openings.{opening_accepted}
use Rattle.laws.specs.Commit.{OpenVerify, CommitOpenVerify, NothingRefused}

-- of two outcomes in turn: the value and the buffer of the first, or its refusal
after_value : (j : Outcome (Unit {0})) (v : ℕ) (O : List ℕ) (f : ℕ → List ℕ → Outcome (Option Check)) {y : ℕ} (o : List ℕ) {o' : List ℕ} → done y ≡ j ⨾ done v → o' ≡ kept j o O
    → numbers_of (f y o') ≡ numbers_of (j ⨾ f v O)
after_value (refused n) v O f o p q = absurd (let z : ◌≡◌ {A = ℕ} 0 1 = cc in omega arith)
after_value (done tt) v O f {y} o p q = let same : y ≡ v = cc in ap₂ (λ a b. numbers_of (f a b)) same q

after_refusal : (j : Outcome (Unit {0})) (v : ℕ) (next : Outcome (Option Check)) {n : Numbers} → refused n ≡ j ⨾ done v → n ≡ numbers_of (j ⨾ next)
after_refusal (refused k) v next e = ap numbers_of (same_refusal e)
after_refusal (done tt) v next e = absurd (let z : ◌≡◌ {A = ℕ} 0 1 = cc in omega arith)

module _ (𝓕 : PrimeField) where
  open 𝓕 use {modulus as P}

  -- what a function that matches on the writer's answer leaves
  module _ {d c k : ℕ} {g t t' m z r us w o s o' s' : List ℕ} {a : Result ℕ Refusal} (p : Wrote 𝓕 d c k g t t' m z r o s a o' s') where
    pub opened : {y : ℕ} {v : Verdict} → a ≡ Ok y → numbers v ≡ numbers_of (verification 𝓕 d c k g t t' w z y r us o') → OpenVerify 𝓕 d c k g t t' m z r us w o s v o' s'
    opened e h =
        record {
          verdict = h ∙ after_value (judge_writing 𝓕 d c k g t t' m z r (length o) (length s)) (value_word 𝓕 m z) (opening_words 𝓕 c k g t t' m z r) (λ y b. verification 𝓕 d c k g t t' w z y r us b) o (ap outcome (sym e) ∙ p.answer) p.result;
          opening = p.result;
          work = p.work;
        }

    pub not_opened : {n : Refusal} {v : Verdict} → a ≡ Err n → numbers v ≡ due n → OpenVerify 𝓕 d c k g t t' m z r us w o s v o' s'
    not_opened e h = record { verdict = h ∙ after_refusal (judge_writing 𝓕 d c k g t t' m z r (length o) (length s)) (value_word 𝓕 m z) _ (ap outcome (sym e) ∙ p.answer); opening = p.result; work = p.work }

  -- by the answer of encoding
  module _ {d c k : ℕ} {g t t' m z r us w o s w' : List ℕ} {a : Answer} (p : Encoded 𝓕 d c k g t t' m w a w') where
    pub committed : {v : Verdict} {o' s' : List ℕ} → a ≡ (Ok tt) → OpenVerify 𝓕 d c k g t t' m z r us w' o s v o' s' → CommitOpenVerify 𝓕 d c k g t t' m z r us w o s v w' o' s'
    committed e h =
        let u = judge_writing 𝓕 d c k g t t' m z r (length o) (length s) in
        let honestly : List ℕ → Outcome (Option Check) = λ b. verification 𝓕 d c k g t t' b z (value_word 𝓕 m z) r us (opening_words 𝓕 c k g t t' m z r) in
        let f : done tt ≡ judge_encoding 𝓕 d c k g t t' m (length w) = ap outcome (sym e) ∙ p.answer in
        let same : w' ≡ codeword_rows 𝓕 d k (base_size c k) g t t' m = p.result ∙ sym (ap (λ x. kept x w (codeword_rows 𝓕 d k (base_size c k) g t t' m)) f) in
        record {
          verdict = h.verdict ∙ ap (λ b. numbers_of (u ⨾ honestly b)) same ∙ ap (λ x. numbers_of (x ⨾ u ⨾ honestly (codeword_rows 𝓕 d k (base_size c k) g t t' m))) f;
          block = p.result;
          opening = h.opening ∙ ap (λ x. kept (x ⨾ u) o (opening_words 𝓕 c k g t t' m z r)) f;
          work = h.work ∙ ap (λ x. kept (x ⨾ u) s (replicate (length s) 0)) f;
        }

    pub not_committed : {n : Refusal} {v : Verdict} → a ≡ Err n → numbers v ≡ due n → CommitOpenVerify 𝓕 d c k g t t' m z r us w o s v w' o s
    not_committed {n} e h =
        let u = judge_writing 𝓕 d c k g t t' m z r (length o) (length s) in
        let honestly : List ℕ → Outcome (Option Check) = λ b. verification 𝓕 d c k g t t' b z (value_word 𝓕 m z) r us (opening_words 𝓕 c k g t t' m z r) in
        let f : refused (due n) ≡ judge_encoding 𝓕 d c k g t t' m (length w) = ap outcome (sym e) ∙ p.answer in
        record {
          verdict = h ∙ ap (λ x. numbers_of (x ⨾ u ⨾ honestly (codeword_rows 𝓕 d k (base_size c k) g t t' m))) f;
          block = p.result;
          opening = ap (λ x. kept (x ⨾ u) o (opening_words 𝓕 c k g t t' m z r)) f;
          work = ap (λ x. kept (x ⨾ u) s (replicate (length s) 0)) f;
        }

  module _ {d c k : ℕ} {g t t' m z r us : List ℕ} {n o s : ℕ} (𝓘 : NothingRefused 𝓕 d c k g t t' m z r us n o s) where
    passed : RowsPassed 𝓕 d c k g t t' (encode_lengths d c k (length g) (length t) (length t') (length m) n) ((Block, m) ∷ [])
    unfolding judge_encoding
    passed = rows_passed 𝓕 d c k g t t' (encode_lengths d c k (length g) (length t) (length t') (length m) n) ((Block, m) ∷ []) 𝓘.encodes

    sizes : (row_lengths d c k (length g) (length t) (length t') ≡ true) × (length m ≡ message_size d k)
    unfolding encode_lengths
    sizes =
        let l = and_both (row_lengths d c k (length g) (length t) (length t')) (eqb (length m) (message_size d k) && eqb n (block_size (base_size c k) d)) passed.lengths in
        (l.0, eqb-true _ _ (and_both (eqb (length m) (message_size d k)) (eqb n (block_size (base_size c k) d)) l.1).0)

    lent_rows_lem : LegalRows 𝓕 d c k g t t'
    lent_rows_lem = legal_passed 𝓕 passed sizes.0

    asked : (length z ≡ point_size d k) × (length r ≡ d) × Low P z × Low P r
    unfolding judge_writing write_lengths input_lengths
    asked =
        let p = rows_passed 𝓕 d c k g t t' (write_lengths d c k (length g) (length t) (length t') (length m) (length z) (length r) o s) ((Block, m) ∷ (Z, z) ∷ (R, r) ∷ []) 𝓘.writes in
        let i = and_both (input_lengths d k (length m) (length z) (length r)) (buffer_lengths d c k o s) (and_both (row_lengths d c k (length g) (length t) (length t')) _ p.lengths).1 in
        let zr = and_both (eqb (length z) (point_size d k)) (eqb (length r) d) (and_both (eqb (length m) (message_size d k)) _ i.0).1 in
        let w = demand_done (all_below 𝓕 z) _ (demand_done (all_below 𝓕 m) _ p.others).1 in
        (eqb-true _ _ zr.0, eqb-true _ _ zr.1, all_below_lem 𝓕 z w.0, all_below_lem 𝓕 r (demand_done (all_below 𝓕 r) _ w.1).0)

    honest : numbers_of (verification 𝓕 d c k g t t' (codeword_rows 𝓕 d k (base_size c k) g t t' m) z (value_word 𝓕 m z) r us (opening_words 𝓕 c k g t t' m z r)) ≡ (0, 0, 0)
    honest = opening_accepted 𝓕 d c k g t t' lent_rows_lem m z r us sizes.1 asked.0 asked.1 asked.2 asked.3 𝓘.asks (value_word 𝓕 m z) refl

  -- wherever no refusal is due, the verdict is 0
  pub commit_accepted : {d c k : ℕ} {g t t' m z r us w o s : List ℕ} {v : Verdict} {w' o' s' : List ℕ} → CommitOpenVerify 𝓕 d c k g t t' m z r us w o s v w' o' s'
      → NothingRefused 𝓕 d c k g t t' m z r us (length w) (length o) (length s) → numbers v ≡ (0, 0, 0)
  commit_accepted {d} {c} {k} {g} {t} {t'} {m} {z} {r} {us} p f =
      p.verdict
      ∙ ap₂ (λ a b. numbers_of (a ⨾ b ⨾ verification 𝓕 d c k g t t' (codeword_rows 𝓕 d k (base_size c k) g t t' m) z (value_word 𝓕 m z) r us (opening_words 𝓕 c k g t t' m z r))) f.encodes f.writes
      ∙ honest f
