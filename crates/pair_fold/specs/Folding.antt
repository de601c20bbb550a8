-- The fold of a block of pairs, in words, and what it is lent. Definitions only. Assumes nothing.
use Rattle.std.specs.Prelude.{◌≡◌, List, map, ℕ, ◌*◌, length}
use Rattle.algebra.specs.Words.{PrimeField}
use Rattle.algebra.specs.WordLists.{Low, elements}
use Rattle.foldable.specs.Code.{fold_along}
use Rattle.pairs.specs.Pair.{Pair, real, NoRoot}
use Rattle.pairs.specs.Square.{square_field}
use Rattle.inversion.specs.Inversion.{Diagonals}
use Rattle.pair.specs.PairWords.{pairs_of, pair_words}

module _ (𝓕 : PrimeField) where
  open 𝓕 use {modulus as P, field as F}
  open F use {ring as K}
  open K use {R as Element}

  -- diagonals of n words, a block of 2 n pairs, and room for n pairs
  pub record PairFoldLent (t t2 w out : List ℕ) : Type 0 where
    pub diagonals : Diagonals 𝓕 1 (length t) t t2
    pub second : length t2 ≡ length t
    pub whole : length w ≡ 4 * length t
    pub block : Low P w
    pub room : length out ≡ 2 * length t

  -- the words of the fold by a, over the pairs
  abbrev pub fold_pair_words : NoRoot F → List ℕ → List ℕ → List ℕ → Pair Element → List ℕ
  fold_pair_words no_root t t2 w a =
      pair_words 𝓕 (fold_along (square_field F no_root) (length t) a (map (real K) (elements 𝓕 t)) (map (real K) (elements 𝓕 t2)) (pairs_of 𝓕 w))
