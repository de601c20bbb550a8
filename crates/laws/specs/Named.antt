-- Where a refused job says that the fault is: 4, 5 and 6 are given exactly where nothing before them is due, with the first word that is not below the
-- modulus, the first zero of one base row or the index 0 of more whose first columns have no inverse, the first equal pair. Of the outcomes that the jobs' contracts cite.
-- Assumes nothing.
use Rattle.std.specs.Prelude.{◌≡◌, refl, Bool, true, ◌&&◌, ◌↔◌, List, [], ◌∷◌, ◌++◌, ℕ, ◌≤◌, eqb, length}
use Rattle.std.proofs.Math.Path.{sym, ap}
use Rattle.std.proofs.Common.{◌∙◌, arith}
use Rattle.std.proofs.Math.Logic.Iff
use Rattle.algebra.specs.Tests.{and_both}
use Rattle.algebra.specs.Words.{PrimeField}
use Rattle.determinant.specs.Inverse.{Singular}
use Rattle.job.specs.Outcome.{Answer}
use Rattle.job.specs.declared.Input.TheVariants.{Block, Z, R}
use Rattle.job.specs.Outcome.{Numbers, Outcome, refused, done, outcome, require, ◌⨾◌}
use Rattle.job.specs.OutcomeLaws.{named, require_number, demand_number, after_number, chain, from_second, from_first}
use Rattle.job.specs.Limits.{rate_ok}
use Rattle.job.specs.Sizes.{k0_ok, depth_ok, base_size, matrix_size}
use Rattle.words.specs.Scans.{all_differ}
use Rattle.places.specs.Inputs.{Lent, judge_words, no_equal, FirstWord, FirstZero, FirstEqual}
use Rattle.places.specs.InputLaws.{first_word, word_named, zero_named, equal_named}
use Rattle.parameters.specs.Parameters.{row_inputs}
use Rattle.cofactor.specs.Rows.{first_columns}
use Rattle.base_parameters.specs.Parameters.{row_lengths}
use Rattle.base_parameters.specs.ParameterLaws.{row_lengths_lem, base_of_one}
use Rattle.base_parameters.specs.NamedLaws.{sizes, RowsNamed}
use Rattle.base_parameters.proofs.NamedRows.{rows_named, singular_named}
use Rattle.clearance.specs.Clearances.{clearance_of, meaning}
use Rattle.read_clearance.specs.Reading.{reading}
use Rattle.table_length.specs.Depth.{table_ok}
use Rattle.table.specs.Job.{judge_message}
use Rattle.evaluate.specs.Evaluation.{evaluate_lengths, evaluate_inputs, judge_evaluating}
use Rattle.encode.specs.Encoding.{encode_lengths, judge_encoding}
use Rattle.base_settle.specs.Settling.{Settled, message, none}
use Rattle.decode.specs.Decoding.{decode_lengths, judge_decoding, Decoded, refusal, settled}
use Rattle.fold_limits.specs.Limits.{level_ok, lengths_ok}
use Rattle.fold.specs.Job.{fold_inputs, judge_folding}
use Rattle.open.specs.Writing.{write_lengths, judge_writing}
use Rattle.queries.specs.Queries.{judge_queries}
use Rattle.queries.specs.QueryLaws.{queries_number}
use Rattle.opened.specs.Opened.{opened_lengths, claim_inputs, judge_opened}
use Rattle.verify.specs.Verifying.{judge_verifying}

never : {A : Type 0} {a : A} {n : Numbers} → ◌≡◌ {A = Outcome A} (done a) (refused n) → ⊥
never e = let z : ◌≡◌ {A = ℕ} 0 1 = cc in omega arith

-- the same of an outcome that is written in another way
parted : {A : Type 0} {o p : Outcome (Unit {0})} {n : Numbers} → o ≡ p → (p ≡ refused n) ↔ A → (o ≡ refused n) ↔ A
parted e f = (λ x. f.0 (sym e ∙ x), λ a. e ∙ f.1 a)

-- what is asked before the words is refused with none of 4, 5 and 6
abbrev Early : ℕ → Type 0
Early b = 4 ≤ b → 7 ≤ b

early : (b : ℕ) → b ≤ 3 → Early b
early b h l = absurd (omega arith)

three_early : (a b : Bool) (p q : ℕ) (f : Bool) → Early p → Early q → (m : Numbers) → require a p ⨾ require b q ⨾ require f 3 ≡ refused m → Early m.0
three_early a b p q f x y m =
    after_number Early (require a p) (require_number Early a p x)
    (after_number Early (require b q) (require_number Early b q y) (require_number Early f 3 (early 3 (omega arith))))

-- three tests, and what is judged behind them
three_parted : {A : Type 0} (a b : Bool) (p q : ℕ) (f : Bool) (rest : Outcome A) → require a p ⨾ require b q ⨾ require f 3 ⨾ rest ≡ (require a p ⨾ require b q ⨾ require f 3) ⨾ rest
three_parted a b p q f rest = ap (λ o. require a p ⨾ o) (sym (chain (require b q) (require f 3) rest)) ∙ sym (chain (require a p) (require b q ⨾ require f 3) rest)

module _ (𝓕 : PrimeField) where
  -- 4 behind what is asked before the words, as the last, or before what gives no 4
  four_last : (asked : Outcome (Unit {0})) (xs : List Lent) {j n : ℕ} → ((m : Numbers) → asked ≡ refused m → Early m.0)
      → (asked ⨾ judge_words 𝓕 xs ≡ refused (4, j, n)) ↔ ((asked ≡ done tt) × FirstWord 𝓕 xs j n)
  four_last asked xs {j} {n} low = (
    λ e. let a = from_second asked (λ h. let l = low (4, j, n) h (omega arith) in omega arith) e in (a.0, (word_named 𝓕 xs).0 a.1),
    λ h. rw (h.0, (word_named 𝓕 xs).1 h.1),
  )

  four_exactly : {A : Type 0} (asked : Outcome (Unit {0})) (xs : List Lent) {rest : Outcome A} {j n : ℕ} → ((m : Numbers) → asked ≡ refused m → Early m.0) → (rest ≡ refused (4, j, n) → ⊥)
      → (asked ⨾ judge_words 𝓕 xs ⨾ rest ≡ refused (4, j, n)) ↔ ((asked ≡ done tt) × FirstWord 𝓕 xs j n)
  four_exactly asked xs {j = j} {n = n} low late = (
    λ e. let a = from_second asked (λ h. let l = low (4, j, n) h (omega arith) in omega arith) e in (a.0, (word_named 𝓕 xs).0 (from_first (judge_words 𝓕 xs) late a.1)),
    λ h. rw (h.0, (word_named 𝓕 xs).1 h.1),
  )

  -- the word that is read counts as the block
  pub reading_named : (w j n : ℕ) → (reading 𝓕 w ≡ refused (4, j, n)) ↔ FirstWord 𝓕 ((Block, w ∷ []) ∷ []) j n
  reading_named w j n =
      let f = four_exactly (done tt) ((Block, w ∷ []) ∷ []) {rest = done (meaning (clearance_of 𝓕 w))} {j = j} {n = n} (λ m h. absurd (never h)) never in
      (λ e. (f.0 e).1, λ h. f.1 (refl, h))

  -- a message on the way back to a table, with a result of a words and a work buffer of b
  pub message_named : (k : ℕ) (m : List ℕ) (a b j n : ℕ)
      → (judge_message 𝓕 k m a b ≡ refused (4, j, n))
      ↔ ((require (table_ok k (length m)) 1 ⨾ require (k0_ok k) 13 ⨾ require (eqb a (length m) && eqb b (length m)) 3 ≡ done tt) × FirstWord 𝓕 ((Block, m) ∷ []) j n)
  message_named k m a b j n =
      let p = table_ok k (length m) in
      let l = eqb a (length m) && eqb b (length m) in
      parted (three_parted p (k0_ok k) 1 13 l _) (four_last (require p 1 ⨾ require (k0_ok k) 13 ⨾ require l 3) ((Block, m) ∷ []) (three_early p (k0_ok k) 1 13 l (early 1 (omega arith)) (λ h. omega arith)))

  pub evaluating_named : (d k : ℕ) (m z : List ℕ) (j n : ℕ)
      → (judge_evaluating 𝓕 d k m z ≡ refused (4, j, n))
      ↔ ((require (depth_ok k d) 1 ⨾ require (k0_ok k) 13 ⨾ require (evaluate_lengths d k (length m) (length z)) 3 ≡ done tt) × FirstWord 𝓕 (evaluate_inputs m z) j n)
  unfolding judge_evaluating
  evaluating_named d k m z j n =
      let p = depth_ok k d in
      let l = evaluate_lengths d k (length m) (length z) in
      parted (three_parted p (k0_ok k) 1 13 l _) (four_last (require p 1 ⨾ require (k0_ok k) 13 ⨾ require l 3) (evaluate_inputs m z) (three_early p (k0_ok k) 1 13 l (early 1 (omega arith)) (λ h. omega arith)))

  -- folding, with a result of s words: 1, 2, 13 and 3; then 4; then 6, by the place in the level that is lent
  module _ (i c k : ℕ) (t t' w : List ℕ) (a s : ℕ) where
    abbrev lengths : Bool
    lengths = lengths_ok i (base_size c k) (length t) (length t') (length w) s

    abbrev pub fold_sizes : Outcome (Unit {0})
    fold_sizes = require (level_ok k i) 1 ⨾ require (rate_ok c) 2 ⨾ require (k0_ok k) 13 ⨾ require (lengths_ok i (base_size c k) (length t) (length t') (length w) s) 3

    fold_early : (m : Numbers) → fold_sizes ≡ refused m → Early m.0
    fold_early m =
        after_number Early (require (level_ok k i) 1) (require_number Early (level_ok k i) 1 (early 1 (omega arith)))
        (three_early (rate_ok c) (k0_ok k) 2 13 lengths (early 2 (omega arith)) (λ h. omega arith) m)

    fold_parted : judge_folding 𝓕 i c k t t' w a s ≡ fold_sizes ⨾ judge_words 𝓕 (fold_inputs t t' w a) ⨾ no_equal t t'
    unfolding judge_folding
    fold_parted =
        ap (λ o. require (level_ok k i) 1 ⨾ o) (three_parted (rate_ok c) (k0_ok k) 2 13 lengths _)
        ∙ sym (chain (require (level_ok k i) 1) (require (rate_ok c) 2 ⨾ require (k0_ok k) 13 ⨾ require lengths 3) _)

    pub folding_four : (j n : ℕ) → (judge_folding 𝓕 i c k t t' w a s ≡ refused (4, j, n)) ↔ ((fold_sizes ≡ done tt) × FirstWord 𝓕 (fold_inputs t t' w a) j n)
    folding_four j n = parted fold_parted (four_exactly fold_sizes (fold_inputs t t' w a) fold_early (λ h. omega (arith, demand_number (λ x. x ≡ 6) (all_differ t t') _ refl h)))

    pub folding_six : (j n : ℕ) → (judge_folding 𝓕 i c k t t' w a s ≡ refused (6, j, n))
        ↔ ((fold_sizes ≡ done tt) × (judge_words 𝓕 (fold_inputs t t' w a) ≡ done tt) × FirstEqual t t' j × (n ≡ 0))
    folding_six j n = parted fold_parted (there, λ h. rw (h.0, h.1, (equal_named t t').1 (h.2, h.3)))
      where
        there : fold_sizes ⨾ judge_words 𝓕 (fold_inputs t t' w a) ⨾ no_equal t t' ≡ refused (6, j, n)
            → (fold_sizes ≡ done tt) × (judge_words 𝓕 (fold_inputs t t' w a) ≡ done tt) × FirstEqual t t' j × (n ≡ 0)
        there e =
            let x = from_second fold_sizes (λ h. let l = fold_early (6, j, n) h (omega arith) in omega arith) e in
            let y = from_second (judge_words 𝓕 (fold_inputs t t' w a)) (λ h. omega (arith, (first_word 𝓕 (fold_inputs t t' w a) h).0)) x.1 in
            let z = (equal_named t t').0 y.1 in
            (x.0, y.0, z.0, z.1)

  open 𝓕 use {field as F}
  open F use {ring as K}

  -- the jobs that are lent a base matrix: 4, 5 and 6, and of 5 what it names. Of one row it is the first zero; of more it is due exactly where the first k columns have no inverse,
  -- and names the index 0
  pub record MatrixNamed (d c k : ℕ) (g t t' : List ℕ) (l : Bool) (xs : List Lent) (o : Outcome (Unit {0})) : Type 0 where
    pub rows : RowsNamed 𝓕 d c k g t t' l xs o
    pub one : k ≡ 1 → (j n : ℕ) → (o ≡ refused (5, j, n)) ↔ ((sizes d c k l ≡ done tt) × (judge_words 𝓕 (row_inputs g t t' ++ xs) ≡ done tt) × FirstZero g j × (n ≡ 0))
    pub more : (k ≡ 1 → ⊥) → (j n : ℕ) → (o ≡ refused (5, j, n))
        ↔ ((sizes d c k l ≡ done tt) × (judge_words 𝓕 (row_inputs g t t' ++ xs) ≡ done tt) × Singular K k (first_columns 𝓕 k (base_size c k) g) × (j ≡ 0) × (n ≡ 0))

  module _ {d c k : ℕ} {g t t' : List ℕ} {l : Bool} {xs : List Lent} {o : Outcome (Unit {0})} (𝓝 : RowsNamed 𝓕 d c k g t t' l xs o) where
    matrix_named : (l ≡ true → length g ≡ matrix_size c k) → MatrixNamed d c k g t t' l xs o
    matrix_named long = record {
      rows = 𝓝;
      one = λ e j n. let f = base_of_one 𝓕 k (base_size c k) g e in (
        λ x. let a = (𝓝.five j n).0 x in let z = (zero_named g).0 (sym f ∙ a.2) in (a.0, a.1, z.0, z.1),
        λ h. (𝓝.five j n).1 (h.0, h.1, f ∙ (zero_named g).1 (h.2, h.3)),
      );
      more = λ e j n. Iff.trans (Iff.trans (𝓝.five j n) (Iff.symm ((rows_named 𝓕 d c k g t t' l xs).five j n))) (singular_named 𝓕 d c k g t t' l xs e long j n);
    }

  module _ (d c k : ℕ) (g t t' : List ℕ) where
    -- the first of a job's tests of lengths
    long_of : (rest : Bool) → (row_lengths d c k (length g) (length t) (length t') && rest) ≡ true → length g ≡ matrix_size c k
    long_of rest e = (row_lengths_lem d c k (length g) (length t) (length t') (and_both (row_lengths d c k (length g) (length t) (length t')) rest e).0).row

    pub encoding_named : (m : List ℕ) (n : ℕ) → MatrixNamed d c k g t t' (encode_lengths d c k (length g) (length t) (length t') (length m) n) ((Block, m) ∷ []) (judge_encoding 𝓕 d c k g t t' m n)
    unfolding judge_encoding encode_lengths
    encoding_named m n = matrix_named (rows_named 𝓕 d c k g t t' _ ((Block, m) ∷ [])) (long_of _)

    pub decoding_named : (w : List ℕ) (m s : ℕ) → MatrixNamed d c k g t t' (decode_lengths d c k (length g) (length t) (length t') (length w) m s) ((Block, w) ∷ []) (judge_decoding 𝓕 d c k g t t' w m s)
    unfolding judge_decoding decode_lengths
    decoding_named w m s = matrix_named (rows_named 𝓕 d c k g t t' _ ((Block, w) ∷ [])) (long_of _)

    -- a call of decoding answers with that outcome, or is settled, and then with none of 4, 5 and 6
    pub decoded_named : {w old space : List ℕ} {r : Answer} {out work : List ℕ} → Decoded 𝓕 d c k g t t' w old space r out work
        → MatrixNamed d c k g t t' (decode_lengths d c k (length g) (length t) (length t') (length w) (length old) (length space)) ((Block, w) ∷ []) (outcome r)
    unfolding decode_lengths
    decoded_named {w} {old} {space} {r} x = matrix_named
        (record {
          four = λ j n. told (4, j, n) (omega arith) (judged.rows.four j n);
          five = λ j n. told (5, j, n) (omega arith) (judged.rows.five j n);
          six = λ j n. told (6, j, n) (omega arith) (judged.rows.six j n);
        }) (long_of _)
      where
        judged : MatrixNamed d c k g t t' (decode_lengths d c k (length g) (length t) (length t') (length w) (length old) (length space)) ((Block, w) ∷ []) (judge_decoding 𝓕 d c k g t t' w (length old) (length space))
        judged = decoding_named w (length old) (length space)

        settles : {out : List ℕ} {n : Numbers} → n.0 ≤ 6 → Settled 𝓕 d k (base_size c k) g t t' w old r out → outcome r ≡ refused n → ⊥
        settles hi (message e _ _ _) f = never (sym e ∙ f)
        settles hi (none e _ _) f = omega (arith, hi, ap (λ o. (named o).0) (sym f ∙ e))

        told : {A : Type 0} (n : Numbers) → n.0 ≤ 6 → (judge_decoding 𝓕 d c k g t t' w (length old) (length space) ≡ refused n) ↔ A → (outcome r ≡ refused n) ↔ A
        told {A} n hi f = go x
          where
            go : {out work : List ℕ} → Decoded 𝓕 d c k g t t' w old space r out work → (outcome r ≡ refused n) ↔ A
            go (refusal m j a _ _) = (λ e. f.0 (j ∙ sym a ∙ e), λ h. a ∙ sym j ∙ f.1 h)
            go (settled j s _) = (λ e. absurd (settles hi s e), λ h. absurd (never (sym j ∙ f.1 h)))

    pub writing_named : (m z r : List ℕ) (o s : ℕ)
        → MatrixNamed d c k g t t' (write_lengths d c k (length g) (length t) (length t') (length m) (length z) (length r) o s) ((Block, m) ∷ (Z, z) ∷ (R, r) ∷ []) (judge_writing 𝓕 d c k g t t' m z r o s)
    unfolding judge_writing write_lengths
    writing_named m z r o s = matrix_named (rows_named 𝓕 d c k g t t' _ ((Block, m) ∷ (Z, z) ∷ (R, r) ∷ [])) (long_of _)

    -- the queries, which are judged last, give none of 4, 5 and 6
    pub verifying_named : (w z : List ℕ) (y : ℕ) (r us o : List ℕ)
        → MatrixNamed d c k g t t' (opened_lengths d c k (length g) (length t) (length t') (length w) (length z) (length r) (length o)) (claim_inputs w z y r o) (judge_verifying 𝓕 d c k g t t' w z y r us o)
    unfolding judge_verifying opened_lengths
    verifying_named w z y r us o = matrix_named
        (record {
          four = λ j n. behind (4, j, n) (omega arith) (opened.four j n);
          five = λ j n. behind (5, j, n) (omega arith) (opened.five j n);
          six = λ j n. behind (6, j, n) (omega arith) (opened.six j n);
        }) (long_of _)
      where
        opened : RowsNamed 𝓕 d c k g t t' (opened_lengths d c k (length g) (length t) (length t') (length w) (length z) (length r) (length o)) (claim_inputs w z y r o) (judge_opened 𝓕 d c k g t t' w z y r o)
        opened = rows_named 𝓕 d c k g t t' _ (claim_inputs w z y r o)

        behind : {A : Type 0} (n : Numbers) → n.0 ≤ 6 → (judge_opened 𝓕 d c k g t t' w z y r o ≡ refused n) ↔ A → (judge_opened 𝓕 d c k g t t' w z y r o ⨾ judge_queries d (base_size c k) us ≡ refused n) ↔ A
        behind n hi f = (
          λ e. f.0 (from_first (judge_opened 𝓕 d c k g t t' w z y r o) (λ h. omega (arith, hi, queries_number (λ b. 7 ≤ b) (omega arith) (omega arith) d (base_size c k) us h)) e),
          λ x. rw (f.1 x),
        )
