-- What the tests of a job say makes what base and fold checks are lent. Assumes nothing.
use Rattle.std.specs.Prelude.{◌≡◌, true, List, ℕ, ◌+◌, ◌*◌, ◌≤◌, length}
use Rattle.std.proofs.Common.{sym, ap, ◌∙◌, mul-le-mul, le_refl, arith}
use Rattle.algebra.specs.Words.{PrimeField}
use Rattle.algebra.specs.WordLists.{Low as LowWords}
use Rattle.job.specs.Limits.{block_size, diagonals_size}
use Rattle.words.specs.Scans.{all_differ}
use Rattle.cofactor.specs.RowLaws.{lent_rate}
use Rattle.job.specs.Sizes.{base_size, matrix_size, low, opening_size}
use Rattle.job.specs.SizeLaws.{Within, base_most}
use Rattle.base_spread.specs.LentRowLaws.{row_coding}
use Rattle.base_walks.specs.Steps.{RowSizes, RowsInput}

-- depth d, rate c and k words a base message, within the limits
pub row_sizes : {d c k : ℕ} → Within d c k → RowSizes d (low k) k (base_size c k)
row_sizes {d} {c} {k} 𝓦 =
    let least : 1 * k ≤ c * k = mul-le-mul 𝓦.least (le_refl k) in
    record { depth = 𝓦.depth; wide = base_most 𝓦; words = sym 𝓦.power; few = omega arith }

module _ (𝓕 : PrimeField) where
  open 𝓕 use {modulus as P}

  -- exact lengths, words below the modulus, diagonals that differ
  pub rows_input : {d c k : ℕ} {g t t' w r o : List ℕ} → Within d c k → length g ≡ matrix_size c k → length t ≡ diagonals_size (base_size c k) d → length t' ≡ diagonals_size (base_size c k) d
      → length w ≡ block_size (base_size c k) d → length r ≡ d → length o ≡ opening_size d c k → LowWords P g → LowWords P t → LowWords P t' → LowWords P w → LowWords P r → LowWords P o
      → all_differ t t' ≡ true → RowsInput 𝓕 d (low k) k (base_size c k) g t t' w r o
  rows_input {d} {c} {k} {g} 𝓦 eg et et' ew er eo lg lt lt' lw lr lo a =
      record {
        sizes = row_sizes 𝓦;
        coding = row_coding 𝓕 (lent_rate 𝓕 c k g 𝓦.least 𝓦.size eg lg) et et' lt lt' a;
        size = ew;
        block = lw;
        challenges = er;
        below = lr;
        opened = eo ∙ ap (λ m. 3 * d + m + diagonals_size (base_size c k) d) (sym 𝓦.power);
        opening = lo;
      }
