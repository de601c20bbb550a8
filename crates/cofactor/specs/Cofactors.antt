-- The cofactors of the first columns of a base matrix, and what is read for one. Definitions only. Assumes nothing.
use Rattle.std.specs.Prelude.{◌≡◌, List, ℕ, zero, suc, ◌+◌, ◌*◌, ◌-◌, ◌<◌, get_or}
use Rattle.algebra.specs.Words.{PrimeField}
use Rattle.residue.specs.Elements.{elem, Low}
use Rattle.residue.specs.declared.Residue.{Residue}
use Rattle.determinant.specs.Determinant.{minor, sign, det}
use Rattle.determinant.specs.Sizes.{det₃}
use Rattle.cofactor.specs.declared.three.RowOfThree.{RowOfThree}
use Rattle.cofactor.specs.Rows.{first_columns, Lent}

-- where place r of a list without its place i stands in the list
unfoldable pub skip : ℕ → ℕ → ℕ
skip zero r = suc r
skip (suc i) zero = zero
skip (suc i) (suc r) = suc (skip i r)

module _ (𝓕 : PrimeField) where
  infixl 65 ◌⊟◌
  infixl 70 ◌⊠◌
  open 𝓕 use {field as F}
  open F use {ring as K}
  open K use {R as Element, ◌*◌ as ◌⊠◌, ◌-◌ as ◌⊟◌}

  -- the determinant of the first k columns without row i and column j; with its sign it is the cofactor
  unfoldable pub minor_at : ℕ → ℕ → List ℕ → ℕ → ℕ → Element
  minor_at k n g i j = det K (k - 1) (minor i j (first_columns 𝓕 k n g))

  unfoldable pub cofactor_at : ℕ → ℕ → List ℕ → ℕ → ℕ → Element
  cofactor_at k n g i j = sign K (i + j) ⊠ minor_at k n g i j

  -- row and column are among the first k
  pub record PlaceLent (k n : ℕ) (g : List ℕ) (i j : ℕ) : Type 0 where
    pub lent : Lent 𝓕 k n g
    pub row : i < k
    pub column : j < k

  pub record LowTriple (t : RowOfThree) : Type 0 where
    pub low_a : Low 𝓕 t.a
    pub low_b : Low 𝓕 t.b
    pub low_c : Low 𝓕 t.c

  -- t is row i without column j, of four columns
  pub record RowOf (n : ℕ) (g : List ℕ) (i j : ℕ) (t : RowOfThree) : Type 0 where
    pub first : t.a.0 ≡ get_or g (i * n + skip j 0) 0
    pub second : t.b.0 ≡ get_or g (i * n + skip j 1) 0
    pub third : t.c.0 ≡ get_or g (i * n + skip j 2) 0
    pub low : LowTriple t

  -- the determinants of the rows (a, b) and (c, d), and of three rows
  abbrev pub two_rows : Residue → Residue → Residue → Residue → Element
  two_rows a b c d = elem 𝓕 a ⊠ elem 𝓕 d ⊟ elem 𝓕 b ⊠ elem 𝓕 c

  abbrev pub three_rows : RowOfThree → RowOfThree → RowOfThree → Element
  three_rows x y z =
      det₃ K (elem 𝓕 x.a) (elem 𝓕 x.b) (elem 𝓕 x.c) (elem 𝓕 y.a) (elem 𝓕 y.b) (elem 𝓕 y.c) (elem 𝓕 z.a) (elem 𝓕 z.b) (elem 𝓕 z.c)
