-- What sums of multiples are lent, and what they are. Definitions only. Assumes nothing.
use Rattle.std.specs.Prelude.{◌≡◌, List, ℕ, ◌<◌, length}
use Rattle.algebra.specs.Vector.{vectors}
use Rattle.algebra.specs.Words.{PrimeField}
use Rattle.algebra.specs.WordLists.{Low, elements, to_words}

module _ (𝓕 : PrimeField) where
  infixl 65 ◌⊞◌
  infixl 70 ◌⊠◌
  infixl 66 ◌⊕◌
  infixr 71 ◌⊛◌
  open 𝓕 use {modulus as P, field as F, words as W}
  open F use {ring as K}
  open K use {◌+◌ as ◌⊞◌, ◌*◌ as ◌⊠◌}
  open W use {el, val as word}
  open vectors K use {◌⊕◌, ◌⊛◌}

  -- the words of w + a g
  unfoldable pub added_scaled : ℕ → List ℕ → List ℕ → List ℕ
  added_scaled a g w = to_words 𝓕 (elements 𝓕 w ⊕ el a ⊛ elements 𝓕 g)

  -- a factor and a word below the modulus
  pub record PairLow (a w : ℕ) : Type 0 where
    pub factor : a < P
    pub word : w < P

  -- the word of a x + b y
  abbrev pub sum_of_two : ℕ → ℕ → ℕ → ℕ → ℕ
  sum_of_two a x b y = word (el a ⊠ el x ⊞ el b ⊠ el y)

  -- the words of a g + b h, and of a g + b h + c u + d v
  abbrev pub two_scaled : ℕ → ℕ → List ℕ → List ℕ → List ℕ
  two_scaled a b g h = added_scaled b h (to_words 𝓕 (el a ⊛ elements 𝓕 g))

  abbrev pub four_scaled : ℕ → ℕ → ℕ → ℕ → List ℕ → List ℕ → List ℕ → List ℕ → List ℕ
  four_scaled a b c d g h u v = added_scaled d v (added_scaled c u (two_scaled a b g h))

  -- two factors, two rows and a block of as many words
  pub record TwoLent (a b : ℕ) (g h w : List ℕ) : Type 0 where
    pub factor : a < P
    pub factor' : b < P
    pub row : Low P g
    pub row' : Low P h
    pub size : length g ≡ length w
    pub size' : length h ≡ length w

  -- and words in the block
  pub record MoreLent (a b : ℕ) (g h w : List ℕ) : Type 0 where
    pub rows : TwoLent a b g h w
    pub low : Low P w

  -- twice as many factors and rows
  pub record FourLent (a b c d : ℕ) (g h u v w : List ℕ) : Type 0 where
    pub front : TwoLent a b g h w
    pub back : TwoLent c d u v w
