-- What pairs of residues, and lists of words taken two by two, stand for. Definitions only. Assumes nothing.
use Rattle.std.specs.Prelude.{◌≡◌, ℕ, ◌+◌, ◌*◌, ◌/◌, ◌<◌, length, get_or}
use mathlib.Core.List.{List, [], ◌∷◌, flat_map}
use Rattle.algebra.specs.Lists.{row}
use Rattle.algebra.specs.Words.{PrimeField}
use Rattle.pairs.specs.Pair.{Pair as Of}
use Rattle.residue.specs.Elements.{elem, Low}
use Rattle.pair.specs.declared.Pair.{Pair}

module _ (𝓕 : PrimeField) where
  open 𝓕 use {modulus as P, field as F, words as W}
  open F use {ring as K}
  open K use {R as Element}
  open W use {el, val as word}

  abbrev pub pair_of : Pair → Of Element
  pair_of x = record { re = elem 𝓕 x.re; im = elem 𝓕 x.im }

  -- both words are below the modulus
  pub record LowPair (x : Pair) : Type 0 where
    pub re_low : Low 𝓕 x.re
    pub im_low : Low 𝓕 x.im

  -- x stands for v, with words below the modulus: there is one such x
  pub record Stands (v : Of Element) (x : Pair) : Type 0 where
    pub value : pair_of x ≡ v
    pub low : LowPair x

  -- pair j of words, and all pairs
  abbrev pub pair_at : List ℕ → ℕ → Of Element
  pair_at ws j = record { re = el (get_or ws (2 * j) 0); im = el (get_or ws (2 * j + 1) 0) }

  unfoldable pub pairs_of : List ℕ → List (Of Element)
  pairs_of ws = row (length ws / 2) (pair_at ws)

  -- the words of pairs, the real part first
  unfoldable pub pair_words : List (Of Element) → List ℕ
  pair_words v = flat_map (λ x. word x.re ∷ word x.im ∷ []) v

  -- pair j is there, and its words are below the modulus
  pub record PairLent (j : ℕ) (ws : List ℕ) : Type 0 where
    pub within : 2 * j + 1 < length ws
    pub first : get_or ws (2 * j) 0 < P
    pub second : get_or ws (2 * j + 1) 0 < P
