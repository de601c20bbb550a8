-- What passes over blocks in loose words are lent, and what they leave. Definitions only. Assumes nothing.
use Rattle.std.specs.Prelude.{◌≡◌, List, ℕ, ◌+◌, ◌*◌, length}
use Rattle.algebra.specs.Vector.{vectors}
use Rattle.algebra.specs.Words.{PrimeField}
use Rattle.algebra.specs.WordLists.{Low, elements}
use Rattle.job.specs.Limits.{block_size}
use Rattle.parameters.specs.Lent.{Coding}

module _ (𝓕 : PrimeField) where
  infixr 71 ◌⊛◌
  open 𝓕 use {modulus as P, field as F}
  open F use {ring as K}
  open K use {R as Element}
  open vectors K use {◌⊛◌}

  -- words below twice the modulus, that stand for v once they are multiplied by s
  pub record Scaled (s : Element) (v : List Element) (out : List ℕ) : Type 0 where
    pub loose : Low (P + P) out
    pub stands : s ⊛ elements 𝓕 out ≡ v

  -- the diagonals of a level, and n blocks of two halves, in loose words
  pub record SweepInput (n : ℕ) (t t' out : List ℕ) : Type 0 where
    pub second : length t' ≡ length t
    pub size : length out ≡ n * (length t + length t)
    pub low : Low P t
    pub low' : Low P t'
    pub block : Low (P + P) out

  -- a block of level d, in loose words
  pub record LooseInput (d : ℕ) (g t t' out : List ℕ) : Type 0 where
    pub coding : Coding 𝓕 d g t t'
    pub size : length out ≡ block_size (length g) d
    pub block : Low (P + P) out
