-- What the inner loop of a fold of pairs is lent, and the lines that it draws. Definitions only. Assumes nothing.
use Rattle.std.specs.Prelude.{◌≡◌, List, ℕ, ◌+◌, ◌*◌, ◌<◌, length, get_or, take}
use Rattle.algebra.specs.Words.{PrimeField}
use Rattle.algebra.specs.WordLists.{Low}
use Rattle.pairs.specs.Pair.{Pair, real, add_p, sub_p, mul_p}
use Rattle.pair.specs.PairWords.{pair_at}

module _ (𝓕 : PrimeField) where
  open 𝓕 use {modulus as P, field as F, words as W}
  open F use {ring as K}
  open K use {R as Element}
  open W use {el}

  -- u + (a - t) s (v - u): the value at a of the line through (t, u) and over t' at height v, where s is the inverse of t' - t
  abbrev pub pair_line : Pair Element → Element → Element → Pair Element → Pair Element → Pair Element
  pair_line a t s u v = add_p K u (mul_p K (sub_p K a (real K t)) (mul_p K (real K s) (sub_p K v u)))

  -- at each place j of n, from the inverses s
  abbrev pub pair_lines : ℕ → Pair Element → List ℕ → List ℕ → List ℕ → ℕ → Pair Element
  pair_lines n a t w s j = pair_line a (el (get_or t j 0)) (el (get_or s j 0)) (pair_at 𝓕 w j) (pair_at 𝓕 w (n + j))

  -- a diagonal t of n words, a block w of 2 n pairs, and room s for n pairs with the inverses in its first n words, all below the modulus
  pub record PairLinesLent (t w s : List ℕ) : Type 0 where
    pub room : length s ≡ 2 * length t
    pub whole : length w ≡ 4 * length t
    pub low : Low P t
    pub block : Low P w
    pub inverses : Low P (take (length t) s)

  -- a diagonal t, a block w of twice as many pairs and, at place j of s, an inverse, all below the modulus
  pub record PairPlaceLent (j : ℕ) (t w s : List ℕ) : Type 0 where
    pub within : j < length t
    pub there : j < length s
    pub whole : length w ≡ 4 * length t
    pub low : Low P t
    pub block : Low P w
    pub inverse : get_or s j 0 < P
