-- Whether a block is a codeword of a code of k base rows, and its message. Definitions only. Assumes nothing.
use Rattle.std.specs.Prelude.{◌≡◌, Bool, true, false, List, ℕ, ◌*◌, ◌^◌, length, take}
use Rattle.algebra.specs.Words.{PrimeField}
use Rattle.algebra.specs.WordLists.{Low, elements}
use Rattle.foldable.specs.Code.{Codeword}
use Rattle.determinant.specs.Inverse.{Inverse}
use Rattle.cofactor.specs.Rows.{first_columns}
use Rattle.base_spread.specs.LentRows.{lent_rows, codeword_rows, RowCoding}
use Rattle.base_undo.specs.Steps.{RowsInput}

module _ (𝓕 : PrimeField) where
  open 𝓕 use {modulus as P, field as F}
  open F use {ring as K}

  -- a legal code and a block of depth d, the inverse of the first k columns of the base matrix in m, of which a row is four words apart from the next, and a work
  -- buffer of size words
  pub record DecodeRows (d k n : ℕ) (g m t t' b : List ℕ) (size : ℕ) : Type 0 where
    pub coding : RowCoding 𝓕 d k n g t t'
    pub input : RowsInput 𝓕 d k n t t' b size
    pub sixteen : length m ≡ 16
    pub low : Low P m
    pub inverse : Inverse K k (first_columns 𝓕 k n g) (first_columns 𝓕 k 4 m)

  -- answer r and work buffer w: in front of w stands a message whose codeword the block b is; or b is no codeword
  pub data Tried (d k n : ℕ) (g t t' b : List ℕ) (r : Bool) (w : List ℕ) : Type 0 where
    message : r ≡ true → length (take (k * 2 ^ d) w) ≡ k * 2 ^ d → Low P (take (k * 2 ^ d) w) → codeword_rows 𝓕 d k n g t t' (take (k * 2 ^ d) w) ≡ b → Tried d k n g t t' b r w
    none : r ≡ false → (Codeword F (lent_rows 𝓕 k n g t t') d (elements 𝓕 b) → ⊥) → Tried d k n g t t' b r w
