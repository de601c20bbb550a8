-- Which place a refused job names that is lent a base matrix and diagonals: 4, 5 and 6, each exactly where nothing before it is due. Assumes nothing.
use Rattle.std.specs.Prelude.{◌≡◌, refl, Bool, true, ◌↔◌, List, ◌++◌, ℕ, ◌≤◌, length}
use Rattle.std.proofs.Common.{sym, ap, ◌∙◌, arith}
use Rattle.algebra.specs.Words.{PrimeField}
use Rattle.job.specs.Outcome.{Numbers, Outcome, refused, done, require, ◌⨾◌}
use Rattle.job.specs.OutcomeLaws.{require_number, demand_number, after_number, chain, from_second, from_first, both, held, demand_done}
use Rattle.job.specs.Limits.{rate_ok}
use Rattle.words.specs.Scans.{all_below, all_differ}
use Rattle.places.specs.Inputs.{Lent, judge_words, no_equal}
use Rattle.places.specs.InputLaws.{first_word, word_named, equal_named}
use Rattle.parameters.specs.Parameters.{row_inputs}
use Rattle.determinant.specs.Inverse.{Singular}
use Rattle.cofactor.specs.Rows.{first_columns}
use Rattle.job.specs.Sizes.{k0_ok, depth_ok, limits, base_size, matrix_size}
use Rattle.job.specs.SizeLaws.{limits_within}
use Rattle.base_parameters.specs.Parameters.{legal_base, judge_rows}
use Rattle.base_parameters.specs.ParameterLaws.{base_number, base_refused, base_asked}
use Rattle.base_parameters.specs.NamedLaws.{sizes, RowsNamed}

-- the numbers of the links
sizes_number : (d c k : ℕ) (l : Bool) {n : Numbers} → sizes d c k l ≡ refused n → 4 ≤ n.0 → n.0 ≡ 13
sizes_number d c k l =
    after_number Q (limits d c k)
    (after_number Q (require (depth_ok k d) 1) (require_number Q (depth_ok k d) 1 (λ h. absurd (omega arith)))
    (after_number Q (require (rate_ok c) 2) (require_number Q (rate_ok c) 2 (λ h. absurd (omega arith))) (require_number Q (k0_ok k) 13 (λ h. refl))))
    (require_number Q l 3 (λ h. absurd (omega arith)))
  where
    Q : ℕ → Type 0
    Q m = 4 ≤ m → m ≡ 13

equal_number : (t t' : List ℕ) {n : Numbers} → no_equal t t' ≡ refused n → n.0 ≡ 6
equal_number t t' e = demand_number (λ k. k ≡ 6) (all_differ t t') _ refl e

module _ (𝓕 : PrimeField) (d c k : ℕ) (g t t' : List ℕ) (l : Bool) (xs : List Lent) where
  open 𝓕 use {field as F}
  open F use {ring as K}

  abbrev words : Outcome (Unit {0})
  words = judge_words 𝓕 (row_inputs g t t' ++ xs)

  abbrev five : Outcome (Unit {0})
  five = legal_base 𝓕 k (base_size c k) g

  parted : judge_rows 𝓕 d c k g t t' l xs ≡ sizes d c k l ⨾ words ⨾ five ⨾ no_equal t t'
  parted = sym (chain (limits d c k) (require l 3) (words ⨾ five ⨾ no_equal t t'))

  five_number : {n : Numbers} → five ≡ refused n → n.0 ≡ 5
  five_number e = base_number 𝓕 k (base_size c k) g e

  no_four : {j n : ℕ} → five ⨾ no_equal t t' ≡ refused (4, j, n) → ⊥
  no_four {j} {n} e = omega (arith, after_number (λ m. 5 ≤ m) five {next = no_equal t t'} {n = (4, j, n)} (λ h. omega (arith, five_number h)) (λ h. omega (arith, equal_number t t' h)) e)

  -- 5 and 6 come behind the words
  behind_words : {n : Numbers} → 5 ≤ n.0 → n.0 ≤ 6 → judge_rows 𝓕 d c k g t t' l xs ≡ refused n → (sizes d c k l ≡ done tt) × (words ≡ done tt) × (five ⨾ no_equal t t' ≡ refused n)
  behind_words lo hi e =
      let a = from_second (sizes d c k l) (λ h. omega (arith, lo, hi, sizes_number d c k l h (omega arith))) (sym parted ∙ e) in
      let b = from_second words (λ h. omega (arith, lo, (first_word 𝓕 (row_inputs g t t' ++ xs) h).0)) a.1 in
      (a.0, b.0, b.1)

  pub rows_named : RowsNamed 𝓕 d c k g t t' l xs (judge_rows 𝓕 d c k g t t' l xs)
  rows_named = record {
    four = λ j n. (
      λ e. let a = from_second (sizes d c k l) (λ h. omega (arith, sizes_number d c k l h (omega arith))) (sym parted ∙ e) in
          (a.0, (word_named 𝓕 (row_inputs g t t' ++ xs)).0 (from_first words no_four a.1)),
      λ h. parted ∙ rw (h.0, (word_named 𝓕 (row_inputs g t t' ++ xs)).1 h.1),
    );
    five = λ j n. (
      λ e. let a = behind_words (omega arith) (omega arith) e in (a.0, a.1, from_first five (λ h. omega (arith, equal_number t t' h)) a.2),
      λ h. parted ∙ rw (h.0, h.1, h.2),
    );
    six = λ j n. (
      λ e. let a = behind_words (omega arith) (omega arith) e in
          let b = from_second five (λ h. omega (arith, five_number h)) a.2 in
          let z = (equal_named t t').0 b.1 in
          (a.0, a.1, b.0, z.0, z.1),
      λ h. parted ∙ rw (h.0, h.1, h.2, (equal_named t t').1 (h.3, h.4)),
    );
  }

  -- with more rows than one 5 is due exactly where the first k columns have no inverse, and names the index 0
  pub singular_named : (k ≡ 1 → ⊥) → (l ≡ true → length g ≡ matrix_size c k) → (j n : ℕ)
      → (judge_rows 𝓕 d c k g t t' l xs ≡ refused (5, j, n)) ↔ ((sizes d c k l ≡ done tt) × (words ≡ done tt) × Singular K k (first_columns 𝓕 k (base_size c k) g) × (j ≡ 0) × (n ≡ 0))
  singular_named more long j n = (
    λ e. let a = (rows_named.five j n).0 e in
        let f = (exactly a.0 a.1).0 a.2 in
        (a.0, a.1, f.0, ap (λ m. m.1) f.1, ap (λ m. m.2) f.1),
    λ h. (rows_named.five j n).1 (h.0, h.1, (exactly h.0 h.1).1 (h.2, λ i. (5, h.3 i, h.4 i))),
  )
    where
      exactly : sizes d c k l ≡ done tt → words ≡ done tt → (five ≡ refused (5, j, n)) ↔ (Singular K k (first_columns 𝓕 k (base_size c k) g) × (◌≡◌ {A = Numbers} (5, j, n) (5, 0, 0)))
      exactly s w =
          let a = both (limits d c k) s in
          let low = (demand_done (all_below 𝓕 g) _ w).0 in
          base_refused 𝓕 k (base_size c k) g (base_asked 𝓕 d c k g (record { within = limits_within d c k a.0; long = long (held l 3 a.1); below = low }) refl) more (5, j, n)
