-- What the tests of base matrix and diagonals say where they hold, and 5 by what it means. Assumes nothing.
use Rattle.std.specs.Prelude.{◌≡◌, Bool, ◌↔◌, List, ◌++◌, ℕ, ◌≤◌, eqb, length}
use Rattle.std.proofs.Math.Path.{refl, ap₂}
use Rattle.std.proofs.Common.{sym, ap, ◌∙◌, arith, eqb-true, eq-eqb, ne_eqb}
use Rattle.std.proofs.Math.Bool.{true, false, ◌&&◌, cond}
use Rattle.algebra.specs.Flags.{cond_true, cond_false}
use Rattle.algebra.specs.Words.{PrimeField}
use Rattle.algebra.specs.Tests.{and_both}
use Rattle.job.specs.declared.Refusal.TheVariants.{BaseRow}
use Rattle.job.specs.Outcome.{Numbers, unplaced, Outcome, refused, done, due, demand, require, unless, ◌⨾◌}
use Rattle.job.specs.OutcomeLaws.{after_refused, after_done, stop, pass, holds_demand, refuses, require_done, demand_done, demand_held, refused_named, demand_number, both}
use Rattle.job.specs.Limits.{rate_ok, diagonals_size}
use Rattle.words.specs.Scans.{all_below, none_zero, all_differ}
use Rattle.words.specs.ScanLaws.{all_below_lem}
use Rattle.places.specs.Inputs.{Lent, in_order, judge_words, no_zero, no_equal, max_words, Short}
use Rattle.places.specs.FlagLaws.{words_flagged, equal_flagged}
use Rattle.parameters.specs.Parameters.{row_inputs, row_words, RowScanned}
use Rattle.parameters.specs.ParameterLaws.{row_below, RowWords, row_words_lem}
use Rattle.determinant.specs.Inverse.{Singular}
use Rattle.cofactor.specs.Rows.{Lent as RowsLent, first_columns}
use Rattle.cofactor.specs.RowLaws.{lent_rate}
use Rattle.base_matrix.specs.Inverting.{BaseOk, base_ok}
use Rattle.base_matrix.specs.Laws.{base_exactly, base_is}
use Rattle.job.specs.Sizes.{k0_ok, depth_ok, limits, in_limits, base_size, matrix_size}
use Rattle.job.specs.SizeLaws.{Within, limits_done, limits_within, within, matrix_most, diagonals_most}
use Rattle.base_parameters.specs.Parameters.{row_lengths, legal_base, legal_rows, judge_rows, judge_flags, LegalRows, Flagged, BaseLent}

-- what the test of the lengths says
pub record RowLengths (d c k g t t' : ℕ) : Type 0 where
  pub row : g ≡ matrix_size c k
  pub first : t ≡ diagonals_size (base_size c k) d
  pub second : t' ≡ diagonals_size (base_size c k) d

pub row_lengths_lem : (d c k g t t' : ℕ) → row_lengths d c k g t t' ≡ true → RowLengths d c k g t t'
unfolding row_lengths
row_lengths_lem d c k g t t' e =
    let a = and_both (eqb g (matrix_size c k)) _ e in
    let b = and_both (eqb t (diagonals_size (base_size c k) d)) _ a.1 in
    record { row = eqb-true _ _ a.0; first = eqb-true _ _ b.0; second = eqb-true _ _ b.1 }

-- then each of their words has an index
pub row_short : (d c k : ℕ) (g t t' w z y r o : List ℕ) → in_limits d c k ≡ true → row_lengths d c k (length g) (length t) (length t') ≡ true
    → length w ≤ max_words → length z ≤ max_words → length y ≤ max_words → length r ≤ max_words → length o ≤ max_words → Short g t t' w z y r o
row_short d c k g t t' w z y r o e f a b h i j =
    let 𝓦 = within d c k e in
    let n = row_lengths_lem d c k (length g) (length t) (length t') f in
    let most = matrix_most 𝓦 in
    let big = diagonals_most 𝓦 d (omega arith) in
    record {
      row = omega (arith, n.row, most);
      first = omega (arith, n.first, big);
      second = omega (arith, n.second, big);
      block = a;
      point = b;
      claim = h;
      challenges = i;
      opening = j;
    }

module _ (𝓕 : PrimeField) where
  open 𝓕 use {field as F}
  open F use {ring as K}

  -- 5 by the number of rows
  pub base_of_one : (k n : ℕ) (g : List ℕ) → k ≡ 1 → legal_base 𝓕 k n g ≡ no_zero g
  unfolding legal_base
  base_of_one k n g e = cond_true (no_zero g) _ (eq-eqb k 1 e)

  pub base_of_more : (k n : ℕ) (g : List ℕ) → (k ≡ 1 → ⊥) → legal_base 𝓕 k n g ≡ demand (base_ok 𝓕 k n g) (due (BaseRow 0))
  unfolding legal_base
  base_of_more k n g m = cond_false (no_zero g) _ (ne_eqb k 1 m)

  pub base_number : (k n : ℕ) (g : List ℕ) {m : Numbers} → legal_base 𝓕 k n g ≡ refused m → m.0 ≡ 5
  unfolding legal_base
  base_number k n g {m} e = go (eqb k 1) e
    where
      go : (b : Bool) → cond b (no_zero g) (demand (base_ok 𝓕 k n g) (due (BaseRow 0))) ≡ refused m → m.0 ≡ 5
      go true h = demand_number (λ i. i ≡ 5) (none_zero g) _ refl h
      go false h = demand_number (λ i. i ≡ 5) (base_ok 𝓕 k n g) _ refl h

  -- of more rows than one it is due exactly where the first k columns have no inverse
  pub base_refused : (k n : ℕ) (g : List ℕ) → RowsLent 𝓕 k n g → (k ≡ 1 → ⊥) → (m : Numbers)
      → (legal_base 𝓕 k n g ≡ refused m) ↔ (Singular K k (first_columns 𝓕 k n g) × (m ≡ due (BaseRow 0)))
  base_refused k n g 𝓛 more m =
      let p = (base_exactly 𝓕 k n g 𝓛).more more in
      let e = base_of_more k n g more in (
        λ h. let f = refused_named (base_ok 𝓕 k n g) (due (BaseRow 0)) (sym e ∙ h) in (p.0 f.0, f.1),
        λ h. e ∙ sym (refuses (due (BaseRow 0)) (p.1 h.0)) ∙ ap (λ n. refused n) (sym h.1),
      )

  -- where the test holds, 5 is not due
  pub base_pass : (k n : ℕ) (g : List ℕ) → base_ok 𝓕 k n g ≡ true → done tt ≡ legal_base 𝓕 k n g
  unfolding legal_base base_ok
  base_pass k n g e = go (eqb k 1) _ e
    where
      go : (b x : Bool) → cond b (none_zero g) x ≡ true → done tt ≡ cond b (no_zero g) (demand (cond b (none_zero g) x) (due (BaseRow 0)))
      go true x h = holds_demand _ h
      go false x h = holds_demand _ h

  -- a base matrix of which 5 may be judged: n is the words of its rows as computed, r what the test answers
  module _ (d c k : ℕ) (g : List ℕ) (𝓑 : BaseLent 𝓕 d c k g) where
    pub base_short : length g ≤ max_words
    base_short = omega (arith, 𝓑.long, matrix_most (within d c k 𝓑.within))

    pub base_asked : {n : ℕ} → n ≡ base_size c k → RowsLent 𝓕 k n g
    base_asked e = let 𝓦 = within d c k 𝓑.within in rw e (lent_rate 𝓕 c k g 𝓦.least 𝓦.size 𝓑.long (all_below_lem 𝓕 g 𝓑.below))

    pub base_answer : {n : ℕ} → n ≡ base_size c k → {r : Bool} → BaseOk 𝓕 k n g r → r ≡ base_ok 𝓕 k (base_size c k) g
    base_answer {n} e b = base_is 𝓕 k n g (base_asked e) b ∙ ap (λ m. base_ok 𝓕 k m g) e

  -- the flags of a job keep what is asked of them: l only where the lengths are right, row by a pass over base matrix and diagonals, `words` only where row is set
  pub flagged : (d c k : ℕ) (g t t' : List ℕ) {l row apart words : Bool} → (l ≡ true → row_lengths d c k (length g) (length t) (length t') ≡ true) → RowScanned 𝓕 l g t t' row apart
      → (words ≡ true → row ≡ true) → Flagged 𝓕 c k g l words
  unfolding row_words
  flagged d c k g t t' {l} h 𝓢 f = record {
    long = λ e. (row_lengths_lem d c k (length g) (length t) (length t') (h e)).row;
    below = λ e. (and_both (all_below 𝓕 g) _ (and_both l (row_words 𝓕 g t t') (sym 𝓢.words_is ∙ f e)).1).0;
  }

  -- where all flags are set, 5 may be judged
  pub flagged_lent : (d c k : ℕ) (g : List ℕ) (l words apart : Bool) → Flagged 𝓕 c k g l words → in_limits d c k ≡ true → ((l && words) && apart) ≡ true → BaseLent 𝓕 d c k g
  flagged_lent d c k g l words apart 𝓟 i e =
      let a = and_both l words (and_both (l && words) apart e).0 in
      record { within = i; long = 𝓟.long a.0; below = 𝓟.below a.1 }

  -- by flags, within the limits: 3; 4; and what is due behind them
  module _ (d c k : ℕ) (g t t' w z y r o : List ℕ) (l words apart : Bool) where
    abbrev whole : Outcome (Unit {0})
    whole = judge_flags 𝓕 d c k g t t' w z y r o l words apart

    abbrev four : Outcome (Unit {0})
    four = unless words (judge_words 𝓕 (in_order g t t' w z y r o))

    abbrev rest : Outcome (Unit {0})
    rest = legal_base 𝓕 k (base_size c k) g ⨾ unless apart (no_equal t t')

    pub three_due : done tt ≡ limits d c k → l ≡ false → refused (unplaced 3) ≡ whole
    three_due i e = after_done i (stop (four ⨾ rest) e)

    pub four_due : done tt ≡ limits d c k → l ≡ true → {n : Numbers} → refused n ≡ four → refused n ≡ whole
    four_due i e f = after_done i (pass 3 e (after_refused rest f))

    pub rest_due : done tt ≡ limits d c k → l ≡ true → done tt ≡ four → {x : Outcome (Unit {0})} → x ≡ rest → x ≡ whole
    rest_due i e f h = after_done i (pass 3 e (after_done f h))

    -- where all flags are set and the base matrix is legal, none of them is due
    pub flags_pass : (in_limits d c k && (((l && words) && apart) && base_ok 𝓕 k (base_size c k) g)) ≡ true → done tt ≡ whole
    flags_pass e =
        let a = and_both (in_limits d c k) _ e in
        let f = and_both ((l && words) && apart) (base_ok 𝓕 k (base_size c k) g) a.1 in
        let h = and_both (l && words) apart f.0 in
        let m = and_both l words h.0 in
        rest_due (limits_done d c k a.0) m.0 (sym (ap (λ b. unless b (judge_words 𝓕 (in_order g t t' w z y r o))) m.1))
        (after_done (base_pass k (base_size c k) g f.1) (sym (ap (λ b. unless b (no_equal t t')) h.1)))

    -- 5 is judged behind 4, of a base matrix
    pub base_lent : Flagged 𝓕 c k g l words → done tt ≡ limits d c k → l ≡ true → done tt ≡ four → BaseLent 𝓕 d c k g
    base_lent 𝓟 i e f = record { within = limits_within d c k (sym i); long = 𝓟.long e; below = go words 𝓟.below f }
      where
        go : (b : Bool) → (b ≡ true → all_below 𝓕 g ≡ true) → done tt ≡ unless b (judge_words 𝓕 (in_order g t t' w z y r o)) → all_below 𝓕 g ≡ true
        go true h q = h refl
        go false h q = (demand_done (all_below 𝓕 g) _ (sym q)).0

  -- a job is judged by flags: row is that of the words of g, T and T', and `words` asks the other words too
  pub judged_by : (d c k : ℕ) (g t t' w z y r o : List ℕ) (L : Bool) (xs : List Lent) {l row apart words : Bool} {out : Outcome (Unit {0})}
      → judge_words 𝓕 (in_order g t t' w z y r o) ≡ judge_words 𝓕 (row_inputs g t t' ++ xs)
      → l ≡ (in_limits d c k && L) → RowScanned 𝓕 l g t t' row apart → (words ≡ true → (row ≡ true) × (judge_words 𝓕 xs ≡ done tt))
      → out ≡ judge_flags 𝓕 d c k g t t' w z y r o l words apart → out ≡ judge_rows 𝓕 d c k g t t' L xs
  judged_by d c k g t t' w z y r o L xs {l} {row} {apart} {words} same e 𝓢 f h =
      h ∙ ap (λ x. limits d c k ⨾ require l 3 ⨾ x ⨾ five ⨾ unless apart (no_equal t t')) four'
      ∙ ap (λ x. limits d c k ⨾ require l 3 ⨾ judge_words 𝓕 (row_inputs g t t' ++ xs) ⨾ five ⨾ x) (equal_flagged l t t' 𝓢.apart_is)
      ∙ ap (λ b. limits d c k ⨾ require b 3 ⨾ judge_words 𝓕 (row_inputs g t t' ++ xs) ⨾ five ⨾ no_equal t t') e
      ∙ by (depth_ok k d) (rate_ok c) (k0_ok k) L (judge_words 𝓕 (row_inputs g t t' ++ xs) ⨾ five ⨾ no_equal t t')
    where
      five : Outcome (Unit {0})
      five = legal_base 𝓕 k (base_size c k) g

      four' : unless words (judge_words 𝓕 (in_order g t t' w z y r o)) ≡ judge_words 𝓕 (row_inputs g t t' ++ xs)
      four' =
          words_flagged 𝓕 words (in_order g t t' w z y r o) (row_inputs g t t' ++ xs) same
          (λ q. let p = f q in row_below 𝓕 g t t' xs (and_both l (row_words 𝓕 g t t') (sym 𝓢.words_is ∙ p.0)).1 p.1)

      by : (a b m l : Bool) (next : Outcome (Unit {0})) → (require a 1 ⨾ require b 2 ⨾ require m 13) ⨾ require ((a && (b && m)) && l) 3 ⨾ next ≡ (require a 1 ⨾ require b 2 ⨾ require m 13) ⨾ require l 3 ⨾ next
      by true true true l next = refl
      by true true false l next = refl
      by true false m l next = refl
      by false b m l next = refl

  -- what is known where none of them is due
  pub record RowsPassed (d c k : ℕ) (g t t' : List ℕ) (L : Bool) (xs : List Lent) : Type 0 where
    pub within : in_limits d c k ≡ true
    pub lengths : L ≡ true
    pub words : row_words 𝓕 g t t' ≡ true
    pub others : judge_words 𝓕 xs ≡ done tt
    pub rows : legal_rows 𝓕 k (base_size c k) g t t' ≡ done tt

  pub rows_passed : (d c k : ℕ) (g t t' : List ℕ) (L : Bool) (xs : List Lent) → judge_rows 𝓕 d c k g t t' L xs ≡ done tt → RowsPassed d c k g t t' L xs
  unfolding row_words
  rows_passed d c k g t t' L xs e =
      let a = both (limits d c k) e in
      let l = require_done L 3 a.1 in
      let w = both (judge_words 𝓕 (row_inputs g t t' ++ xs)) l.1 in
      let x = demand_done (all_below 𝓕 g) _ w.0 in
      let y = demand_done (all_below 𝓕 t) _ x.1 in
      let z = demand_done (all_below 𝓕 t') _ y.1 in
      record { within = limits_within d c k a.0; lengths = l.0; words = ap₂ ◌&&◌ x.0 (ap₂ ◌&&◌ y.0 z.0); others = z.1; rows = w.1 }

  -- and that none is
  pub rows_done : (d c k : ℕ) (g t t' : List ℕ) (L : Bool) (xs : List Lent) → RowsPassed d c k g t t' L xs → judge_rows 𝓕 d c k g t t' L xs ≡ done tt
  rows_done d c k g t t' L xs p =
      sym (after_done (limits_done d c k p.within) (pass 3 p.lengths (after_done (sym (row_below 𝓕 g t t' xs p.words p.others)) (sym p.rows))))

  -- then they are legal, where the test of all lengths asks theirs
  pub legal_passed : {d c k : ℕ} {g t t' : List ℕ} {L : Bool} {xs : List Lent} → RowsPassed d c k g t t' L xs → row_lengths d c k (length g) (length t) (length t') ≡ true → LegalRows 𝓕 d c k g t t'
  legal_passed {d} {c} {k} p l = record { within = sym (limits_done d c k p.within); lengths = l; words = p.words; legal = p.rows }

-- what is known of legal base matrix and diagonals
module _ (𝓕 : PrimeField) {d c k : ℕ} {g t t' : List ℕ} (𝓡 : LegalRows 𝓕 d c k g t t') where
  pub within_of : Within d c k
  within_of = within d c k (limits_within d c k 𝓡.within)

  pub lengths_of : RowLengths d c k (length g) (length t) (length t')
  lengths_of = row_lengths_lem d c k (length g) (length t) (length t') 𝓡.lengths

  pub words_of : RowWords 𝓕 g t t'
  words_of = row_words_lem 𝓕 g t t' 𝓡.words

  pub lent_of : RowsLent 𝓕 k (base_size c k) g
  lent_of = lent_rate 𝓕 c k g within_of.least within_of.size lengths_of.row words_of.row

  -- 5 and 6 are not due
  pub apart_of : (legal_base 𝓕 k (base_size c k) g ≡ done tt) × (all_differ t t' ≡ true)
  apart_of = let a = both (legal_base 𝓕 k (base_size c k) g) 𝓡.legal in (a.0, demand_held (all_differ t t') _ a.1)
