-- What the inner functions return. Definitions only. Assumes nothing.
use Rattle.std.specs.Prelude.{◌&&◌, cond, ◌≡◌, List, map, ℕ, ◌+◌, ◌*◌, ◌/◌, ◌%◌, ◌<◌, ◌≤◌, ltb, length, get_or}
use Rattle.algebra.specs.Sums.{sum}
use Rattle.algebra.specs.Words.{PrimeField}
use Rattle.algebra.specs.WordLists.{Low}
use Rattle.residue.specs.Elements.{product}
use Rattle.cofactor.specs.Cofactors.{cofactor_at}

module _ (𝓕 : PrimeField) where
  infixl 70 ◌⊠◌
  open 𝓕 use {modulus as P, field as F, words as W}
  open F use {ring as K}
  open K use {R as Element, ◌*◌ as ◌⊠◌}
  open W use {el, val as word}

  -- place p of the adjugate, four words a row: in row i and column j the cofactor of row j and column i
  unfoldable pub cell_at : ℕ → ℕ → List ℕ → ℕ → ℕ
  cell_at k n g p = cond (ltb (p / 4) k && ltb (p % 4) k) (word (cofactor_at 𝓕 k n g (p % 4) (p / 4))) 0

  -- each word times q
  unfoldable pub scaled_words : ℕ → List ℕ → List ℕ
  scaled_words q m = map (product 𝓕 q) m

  -- the row vector v times column j
  unfoldable pub product_at : List ℕ → List ℕ → ℕ → Element
  product_at v m j = sum K (length v) (λ i. el (get_or v i 0) ⊠ el (get_or m (i * 4 + j) 0))

  pub record ProductLent (v m : List ℕ) (j : ℕ) : Type 0 where
    pub few : length v ≤ 4
    pub column : j < 4
    pub sixteen : length m ≡ 16
    pub low : Low P v
    pub low_matrix : Low P m

  pub record TimesLent (v m out : List ℕ) : Type 0 where
    pub few : length v ≤ 4
    pub long : length out ≡ length v
    pub sixteen : length m ≡ 16
    pub low : Low P v
    pub low_matrix : Low P m
