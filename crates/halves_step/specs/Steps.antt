-- What the two parts of a step are lent, and what they leave. Definitions only. Assumes nothing.
use Rattle.std.specs.Prelude.{◌≡◌, Bool, List, ℕ, suc, ◌+◌, ◌^◌, ◌≤◌, ◌<◌, length, take, drop}
use Rattle.algebra.specs.Vector.{vectors}
use Rattle.algebra.specs.Words.{PrimeField}
use Rattle.algebra.specs.WordLists.{Low, elements, to_words}
use Rattle.algebra.specs.Tests.{all_same}
use Rattle.foldable.specs.Peel.{peel}
use Rattle.job.specs.Limits.{max_depth, block_size}
use Rattle.parameters.specs.Lent.{Coding, codeword}

module _ (𝓕 : PrimeField) where
  infixl 66 ◌⊕◌
  infixl 70 ◌⊙◌
  open 𝓕 use {modulus as P, field as F}
  open F use {ring as K}
  open vectors K use {◌⊕◌, ◌⊙◌}

  -- a message of two halves of depth i in front of w, and room from b on for the codeword of the right half
  pub record CodeLent (i b : ℕ) (g t t' w : List ℕ) : Type 0 where
    pub coding : Coding 𝓕 i g t t'
    pub depth : i ≤ max_depth
    pub message : Low P (take (2 ^ suc i) w)
    pub behind : 2 ^ suc i ≤ b
    pub within : b + block_size (length g) i ≤ length w

  pub record RightWritten (i b : ℕ) (g t t' w out : List ℕ) : Type 0 where
    pub kept : take b out ≡ take b w
    pub right : take (block_size (length g) i) (drop b out) ≡ codeword 𝓕 i g t t' (take (2 ^ i) (drop (2 ^ i) w))

  -- u - t r and l + t r, of words
  unfoldable pub peeled : List ℕ → List ℕ → List ℕ → List ℕ
  peeled u t r = to_words 𝓕 (peel F (elements 𝓕 u) (elements 𝓕 t) (elements 𝓕 r))

  unfoldable pub raised : List ℕ → List ℕ → List ℕ → List ℕ
  raised l t r = to_words 𝓕 (elements 𝓕 l ⊕ elements 𝓕 t ⊙ elements 𝓕 r)

  -- words below the modulus: of a block's first half, of both diagonals, and of the codeword of the message's right half
  pub record PlaceLow (u t t' r : ℕ) : Type 0 where
    pub word : u < P
    pub first : t < P
    pub second : t' < P
    pub right : r < P

  -- the diagonals of a level, a block of its two halves, and the codeword r of the message's right half
  pub record LentPeel (t t' b r : List ℕ) : Type 0 where
    pub second : length t' ≡ length t
    pub size : length b ≡ length t + length t
    pub right : length r ≡ length t
    pub low : Low P t
    pub low' : Low P t'
    pub block : Low P b
    pub words : Low P r

  -- the same with the codeword behind the block
  pub record FrontPeel (t t' w : List ℕ) : Type 0 where
    pub second : length t' ≡ length t
    pub size : length w ≡ length t + length t + length t
    pub low : Low P t
    pub low' : Low P t'
    pub words : Low P w

  -- r peeled off the block of halves u and v: what is left, and whether it gives v
  pub record Peeled (t t' u v r : List ℕ) (ok : Bool) (out : List ℕ) : Type 0 where
    pub answer : ok ≡ all_same (raised (peeled u t r) t' r) v
    pub left : out ≡ peeled u t r
