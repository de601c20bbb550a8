-- What the steps of encoding with k base rows are lent, and what they leave. Definitions only. Assumes nothing.
use Rattle.std.specs.Prelude.{◌≡◌, List, [], ℕ, ◌*◌, ◌/◌, ◌^◌, length}
use Rattle.algebra.specs.Vector.{vectors}
use Rattle.algebra.specs.Matrix.{times}
use Rattle.algebra.specs.Words.{PrimeField}
use Rattle.algebra.specs.WordLists.{Low, elements, to_words}
use Rattle.blocks.specs.Base.{base_blocks}
use Rattle.job.specs.Limits.{block_size}
use Rattle.cofactor.specs.Rows.{rows, Lent}
use Rattle.base_spread.specs.LentRows.{lent_rows, RowCoding}

module _ (𝓕 : PrimeField) where
  infixr 71 ◌⊛◌
  open 𝓕 use {modulus as P, field as F}
  open F use {ring as K}
  open K use {R as Element}
  open vectors K use {◌⊛◌}

  -- the base blocks of a message of several base messages of k words, whatever the diagonals
  unfoldable pub blocks_of : ℕ → ℕ → List ℕ → List ℕ → List ℕ
  blocks_of k n g m = to_words 𝓕 (base_blocks F (lent_rows 𝓕 k n g [] []) (length m / k) (elements 𝓕 m))

  -- the words of a times the block of a base message
  unfoldable pub block_by : Element → ℕ → List ℕ → List ℕ → List ℕ
  block_by a n g m = to_words 𝓕 (a ⊛ times K n (elements 𝓕 m) (rows 𝓕 (length m) n g))

  -- the words of a times all base blocks
  unfoldable pub blocks_by : Element → ℕ → ℕ → List ℕ → List ℕ → List ℕ
  blocks_by a k n g m = to_words 𝓕 (a ⊛ base_blocks F (lent_rows 𝓕 k n g [] []) (length m / k) (elements 𝓕 m))

  -- a message of whole base messages, and n words for each
  pub record SpreadLent (k n : ℕ) (g m out : List ℕ) : Type 0 where
    pub lent : Lent 𝓕 k n g
    pub low : Low P m
    pub whole : length m ≡ k * (length m / k)
    pub size : length out ≡ n * (length m / k)

  -- rows and diagonals for depth d, a message of k 2^d words and a block of n 2^d
  pub record EncodeLent (d k n : ℕ) (g t t' m out : List ℕ) : Type 0 where
    pub coding : RowCoding 𝓕 d k n g t t'
    pub message : length m ≡ k * 2 ^ d
    pub words : Low P m
    pub size : length out ≡ block_size n d
