-- The code of legal base matrix and diagonals, and of the levels below. Assumes nothing.
use Rattle.std.specs.Prelude.{◌≡◌, List, ℕ, ◌+◌, ◌≤◌, ◌<◌, length}
use Rattle.std.proofs.Common.{sym, ◌∙◌, arith, length-take, ext_get_or, get_or-take}
use Rattle.algebra.specs.Words.{PrimeField}
use Rattle.job.specs.Limits.{diagonals_size}
use Rattle.job.specs.Sizes.{base_size}
use Rattle.parameters.specs.Lent.{diagonal}
use Rattle.parameters.specs.LentLaws.{get_or_diagonal, length_diagonal, level_within}
use Rattle.cofactor.specs.RowLaws.{rows_count}
use Rattle.base_parameters.specs.Parameters.{LegalRows}
use Rattle.base_parameters.specs.ParameterLaws.{lengths_of, words_of, lent_of, apart_of}
use Rattle.base_spread.specs.LentRows.{lent_rows, RowCoding}
use Rattle.base_spread.specs.LentRowLaws.{row_coding}
use Rattle.laws.specs.Calls.{levels_below}

-- the levels below i are the same in both
pub diagonal_below : (n i j : ℕ) (t : List ℕ) → j < i → diagonals_size n i ≤ length t → diagonal n (levels_below n i t) j ≡ diagonal n t j
diagonal_below n i j t h l =
    let s : length (levels_below n i t) ≡ diagonals_size n i = length-take (diagonals_size n i) t ∙ omega arith in
    let a = length_diagonal n i j (levels_below n i t) h (omega arith) in
    let b = length_diagonal n i j t h l in
    ext_get_or 0 _ _ (a ∙ sym b)
    (λ k q. get_or_diagonal n j (levels_below n i t) k (omega arith) ∙ get_or-take (diagonals_size n i) t (diagonals_size n j + k) 0 (omega (arith, level_within n j i h))
    ∙ sym (get_or_diagonal n j t k (omega arith)))

module _ (𝓕 : PrimeField) {d c k : ℕ} {g t t' : List ℕ} (𝓡 : LegalRows 𝓕 d c k g t t') where
  pub coding_of : RowCoding 𝓕 d k (base_size c k) g t t'
  coding_of =
      let l = lengths_of 𝓕 𝓡 in
      let w = words_of 𝓕 𝓡 in
      row_coding 𝓕 (lent_of 𝓕 𝓡) l.first l.second w.first w.second (apart_of 𝓕 𝓡).1

  -- k base rows
  pub rows_of : length (lent_rows 𝓕 k (base_size c k) g t t').G₀ ≡ k
  rows_of = rows_count 𝓕 k (base_size c k) g coding_of.lent.few (omega (arith, coding_of.lent.long))
