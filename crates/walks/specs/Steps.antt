-- What fold checks are lent, and which places queries may have. Definitions only. Assumes nothing.
use Rattle.std.specs.Prelude.{◌≡◌, Bool, List, ℕ, zero, suc, ◌+◌, ◌^◌, ◌≤◌, ◌<◌, length, get_or}
use Rattle.algebra.specs.Words.{PrimeField}
use Rattle.algebra.specs.WordLists.{Low as LowWords}
use Rattle.foldable.specs.Code.{line}
use Rattle.basefold.specs.Checks.{same}
use Rattle.job.specs.Limits.{block_size}
use Rattle.residue.specs.Elements.{Low, elem}
use Rattle.residue.specs.declared.Residue.{Residue}

-- u is a place of the block below level i, if there is one
abbrev pub PlaceBelow : ℕ → ℕ → ℕ → Type 0
PlaceBelow c zero u = Unit {0}
PlaceBelow c (suc i) u = u < block_size c i

-- each query is a place of the block below the top level, and each position in the list fits a word
pub record QueryPlaces (c d : ℕ) (us : List ℕ) : Type 0 where
  pub few : length us ≤ 2 ^ 32
  pub start : (k : ℕ) → k < length us → PlaceBelow c d (get_or us k 0)

module _ (𝓕 : PrimeField) where
  open 𝓕 use {modulus as P, field as F, words as W}
  open F use {ring as K}
  open K use {R as Element}
  open W use {el}

  -- a challenge, two points of a line, and what its value at the challenge is compared with
  pub record LinePoints (a t t' w₀ w₁ b : Residue) : Type 0 where
    pub challenge : Low 𝓕 a
    pub first : Low 𝓕 t
    pub second : Low 𝓕 t'
    pub apart : elem 𝓕 t ≡ elem 𝓕 t' → ⊥
    pub left : Low 𝓕 w₀
    pub right : Low 𝓕 w₁
    pub below : Low 𝓕 b

  -- a challenge, a place of the diagonals, and two blocks, one of twice the other's length
  pub record FoldAt (a t t' : Residue) (u : ℕ) (w b : List ℕ) : Type 0 where
    pub challenge : Low 𝓕 a
    pub first : Low 𝓕 t
    pub second : Low 𝓕 t'
    pub apart : elem 𝓕 t ≡ elem 𝓕 t' → ⊥
    pub size : length w ≡ length b + length b
    pub place : u < length b
    pub upper : LowWords P w
    pub lower : LowWords P b

  -- the line through the two words of w at a goes through the word of b
  abbrev pub line_at : (a t t' : Element) (u : ℕ) (w b : List ℕ) → Bool
  line_at a t t' u w b = same F (line F a t t' (el (get_or w u 0)) (el (get_or w (length b + u) 0))) (el (get_or b u 0))
