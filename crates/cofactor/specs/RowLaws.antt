-- The first columns of a base matrix, entry by entry. Assumes nothing.
use Rattle.std.specs.Prelude.{◌≡◌, List, ℕ, zero, suc, ◌+◌, ◌*◌, ◌<◌, ◌≤◌, length, get_or, take, drop}
use Rattle.std.proofs.Common.{sym, ap, ◌∙◌, mul-le-mul, suc-mul, le_refl, arith, length-take, length-drop, get_or-take, get_or-drop}
use Rattle.algebra.specs.Lists.{row, length_row, row_ext, row_get_or, map_row}
use Rattle.algebra.specs.Matrix.{Wide}
use Rattle.algebra.specs.Words.{PrimeField}
use Rattle.algebra.specs.WordLists.{Low, elements, length_elements, get_or_elements}
use Rattle.job.specs.Sizes.{Size}
use Rattle.determinant.specs.Inverse.{Square}
use Rattle.determinant.specs.Places.{wide_row}
use Rattle.cofactor.specs.Rows.{rows, first_columns, Lent}

-- the matrix of k rows and columns with f i j in row i and column j
abbrev pub table : {E : Type 0} → ℕ → (ℕ → ℕ → E) → List (List E)
table k f = row k (λ i. row k (f i))

-- row i ends within k rows
pub row_within : (k n i : ℕ) → i < k → i * n + n ≤ k * n
row_within k n i h = let ends : suc i * n ≤ k * n = mul-le-mul h (le_refl n) in omega (arith, suc-mul i n)

-- at the rate c: rows of c k words
pub lent_rate : (𝓕 : PrimeField) (c k : ℕ) (g : List ℕ) → 0 < c → Size k → length g ≡ k * (c * k) → Low 𝓕.modulus g → Lent 𝓕 k (c * k) g
lent_rate 𝓕 c k g h s e l = let few : 1 * k ≤ c * k = mul-le-mul h (le_refl k) in record { size = s; few = omega arith; long = e; low = l }

wide_by : {E : Type 0} (n m : ℕ) (f : ℕ → List E) → ((i : ℕ) → i < m → length (f i) ≡ n) → Wide n (row m f)
unfolding row
wide_by n zero f h = tt
wide_by n (suc m) f h = (h 0 (omega arith), wide_by n m (λ i. f (suc i)) (λ i l. h (suc i) (omega arith)))

module _ (𝓕 : PrimeField) (k n : ℕ) (g : List ℕ) (few : k ≤ n) (long : k * n ≤ length g) where
  open 𝓕 use {field as F, words as W}
  open F use {ring as K}
  open K use {R as Element, 𝟘}
  open W use {el}

  length_whole : (i : ℕ) → i < k → length (take n (drop (i * n) g)) ≡ n
  length_whole i h = length-take n (drop (i * n) g) ∙ omega (arith, length-drop (i * n) g, row_within k n i h)

  one_row_lem : (i : ℕ) → i < k → take k (elements 𝓕 (take n (drop (i * n) g))) ≡ row k (λ j. el (get_or g (i * n + j) 0))
  one_row_lem i h =
      let whole : List ℕ = take n (drop (i * n) g) in
      let l : List Element = elements 𝓕 whole in
      let e : length l ≡ n = length_elements 𝓕 whole ∙ length_whole i h in
      let short : length (take k l) ≡ k = length-take k l ∙ omega arith in
      sym (row_get_or (take k l) 𝟘) ∙ ap (λ m. row m (λ j. get_or (take k l) j 𝟘)) short
      ∙ row_ext k _ _ (λ j b. get_or-take k l j 𝟘 b ∙ get_or_elements 𝓕 whole j
      ∙ ap el (get_or-take n (drop (i * n) g) j 0 (omega arith) ∙ get_or-drop (i * n) g j 0))

  -- in row i and column j stands word i n + j
  pub first_columns_lem : first_columns 𝓕 k n g ≡ table k (λ i j. el (get_or g (i * n + j) 0))
  unfolding first_columns rows
  first_columns_lem = map_row (take k) k _ ∙ row_ext k _ _ one_row_lem

  pub first_square : Square k (first_columns 𝓕 k n g)
  first_square = rw first_columns_lem (record { rows = length_row k _; wide = wide_row k k _ (λ i. length_row k _) })

  pub rows_count : length (rows 𝓕 k n g) ≡ k
  unfolding rows
  rows_count = length_row k _

  pub rows_wide : Wide n (rows 𝓕 k n g)
  unfolding rows
  rows_wide = wide_by n k _ (λ i h. length_elements 𝓕 (take n (drop (i * n) g)) ∙ length_whole i h)
