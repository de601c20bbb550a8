-- AT k0 = 1 EVERYTHING IS AS BEFORE: limits, sizes, lengths and judging are those of one base row. Assumes nothing.
use Rattle.std.specs.Prelude.{◌≡◌, Bool, true, false, ◌&&◌, ◌↔◌, List, ◌++◌, ℕ, ◌+◌, ◌*◌, ◌^◌, eqb, leb, length}
use Rattle.std.proofs.Math.Path.{refl}
use Rattle.std.proofs.Common.{sym, ap, ap₂, ◌∙◌, one-mul, mul-one, arith}
use Rattle.algebra.specs.Words.{PrimeField}
use Rattle.basefold.specs.Layout as layout
use Rattle.job.specs.Outcome.{done, require, unless, ◌⨾◌}
use Rattle.job.specs.Limits as job
use Rattle.places.specs.Inputs.{Lent, in_order, judge_words, no_zero, no_equal}
use Rattle.parameters.specs.Parameters.{row_inputs}
use Rattle.job.specs.Sizes.{k0_ok, depth_ok, limits, in_limits, base_size, message_size, matrix_size, low, point_size, opening_size}
use Rattle.job.specs.SizeLaws.{depth_by_point, power_is}
use Rattle.base_parameters.specs.OneRowBefore as before
use Rattle.base_parameters.specs.Parameters.{row_lengths, legal_base, legal_rows, judge_rows, judge_flags, LegalRows}

low_one : low 1 ≡ 0
unfolding low
low_one = refl

one_legal : k0_ok 1 ≡ true
unfolding k0_ok
one_legal = refl

pub point_one : (d : ℕ) → point_size d 1 ≡ d
point_one d = omega (arith, low_one)

pub depth_one : (d : ℕ) → depth_ok 1 d ≡ before.depth_ok d
depth_one d = sym (depth_by_point 1 d) ∙ ap (λ n. leb n job.max_depth) (point_one d)

pub limits_one : (d c : ℕ) → limits d c 1 ≡ before.limits d c
limits_one d c = ap₂ (λ a b. require a 1 ⨾ require (job.rate_ok c) 2 ⨾ require b 13) (depth_one d) one_legal ∙ go (before.depth_ok d) (job.rate_ok c)
  where
    go : (a b : Bool) → require a 1 ⨾ require b 2 ⨾ done tt ≡ require a 1 ⨾ require b 2
    go true true = refl
    go true false = refl
    go false b = refl

pub within_one : (d c : ℕ) → in_limits d c 1 ≡ before.in_limits d c
within_one d c = ap₂ (λ a b. a && (job.rate_ok c && b)) (depth_one d) one_legal ∙ ap (λ b. before.depth_ok d && b) (go (job.rate_ok c))
  where
    go : (b : Bool) → (b && true) ≡ b
    go true = refl
    go false = refl

-- the sizes: the words of a base block are the rate
pub base_one : (c : ℕ) → base_size c 1 ≡ c
base_one c = mul-one c

pub message_one : (d : ℕ) → message_size d 1 ≡ 2 ^ d
message_one d = one-mul (2 ^ d)

pub matrix_one : (c : ℕ) → matrix_size c 1 ≡ c
matrix_one c = one-mul (base_size c 1) ∙ base_one c

pub block_one : (c i : ℕ) → job.block_size (base_size c 1) i ≡ job.block_size c i
block_one c i = ap (λ n. job.block_size n i) (base_one c)

pub diagonals_one : (c i : ℕ) → job.diagonals_size (base_size c 1) i ≡ job.diagonals_size c i
diagonals_one c i = ap (λ n. job.diagonals_size n i) (base_one c)

pub opening_one : (d c : ℕ) → opening_size d c 1 ≡ layout.opening_size c 0 d
opening_one d c = ap (λ n. 3 * d + 1 + job.diagonals_size n d) (base_one c)

-- for any legal k the opening is that of the layout
pub opening_is : (d c k : ℕ) → k0_ok k ≡ true → opening_size d c k ≡ layout.opening_size (base_size c k) (low k) d
opening_is d c k e = ap (λ n. 3 * d + n + job.diagonals_size (base_size c k) d) (sym (power_is k e))

pub lengths_one : (d c g t t' : ℕ) → row_lengths d c 1 g t t' ≡ before.row_lengths d c g t t'
unfolding row_lengths before.row_lengths
lengths_one d c g t t' = ap₂ (λ m n. eqb g m && (eqb t (job.diagonals_size n d) && eqb t' (job.diagonals_size n d))) (matrix_one c) (base_one c)

module _ (𝓕 : PrimeField) where
  pub legal_one : (n : ℕ) (g : List ℕ) → legal_base 𝓕 1 n g ≡ no_zero g
  unfolding legal_base
  legal_one n g = refl

  pub rows_one : (n : ℕ) (g t t' : List ℕ) → legal_rows 𝓕 1 n g t t' ≡ before.legal_row g t t'
  rows_one n g t t' = ap (λ o. o ⨾ no_equal t t') (legal_one n g)

  pub judge_one : (d c : ℕ) (g t t' : List ℕ) (lengths : Bool) (xs : List Lent) → judge_rows 𝓕 d c 1 g t t' lengths xs ≡ before.judge_row 𝓕 d c g t t' lengths xs
  judge_one d c g t t' lengths xs =
      ap₂ (λ m n. m ⨾ require lengths 3 ⨾ judge_words 𝓕 (row_inputs g t t' ++ xs) ⨾ n) (limits_one d c) (rows_one (base_size c 1) g t t')

  pub flags_one : (d c : ℕ) (g t t' w z y r o : List ℕ) (lengths words apart : Bool)
      → judge_flags 𝓕 d c 1 g t t' w z y r o lengths words apart ≡ before.judge_flags 𝓕 d c g t t' w z y r o lengths words apart
  flags_one d c g t t' w z y r o lengths words apart =
      ap₂ (λ m n. m ⨾ require lengths 3 ⨾ unless words (judge_words 𝓕 (in_order g t t' w z y r o)) ⨾ n ⨾ unless apart (no_equal t t')) (limits_one d c) (legal_one (base_size c 1) g)

  pub legal_rows_one : (d c : ℕ) (g t t' : List ℕ) → LegalRows 𝓕 d c 1 g t t' ↔ before.LegalRow 𝓕 d c g t t'
  legal_rows_one d c g t t' = (
    λ l. record {
      within = sym (limits_one d c) ∙ l.within;
      lengths = sym (lengths_one d c (length g) (length t) (length t')) ∙ l.lengths;
      words = l.words;
      legal = sym (rows_one (base_size c 1) g t t') ∙ l.legal;
    },
    λ l. record {
      within = limits_one d c ∙ l.within;
      lengths = lengths_one d c (length g) (length t) (length t') ∙ l.lengths;
      words = l.words;
      legal = rows_one (base_size c 1) g t t' ∙ l.legal;
    },
  )
