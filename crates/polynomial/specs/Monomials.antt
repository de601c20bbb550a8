-- Words that are monomials at a point. Definitions only. Assumes nothing.
use Rattle.std.specs.Prelude.{◌≡◌, List, ℕ, ◌+◌, ◌^◌, ◌<◌, ◌≤◌, length, get_or}
use Rattle.algebra.specs.Words.{PrimeField}
use Rattle.algebra.specs.WordLists.{elements}
use Rattle.multilinear.specs.Polynomial.{monomial}

module _ (𝓕 : PrimeField) where
  infixl 70 ◌⊠◌
  open 𝓕 use {modulus as P, field as F, words as W}
  open F use {ring as K}
  open K use {◌*◌ as ◌⊠◌}
  open W use {el, val as word}

  -- word b is monomial b at z: for each b that has the six lowest variables only, or all b where there are fewer variables
  pub record Monomials (w z : List ℕ) : Type 0 where
    pub size : length w ≡ 64
    pub product : (b : ℕ) → b < 64 → b < 2 ^ length z → get_or w b 0 ≡ word (monomial K b (elements 𝓕 z))

  -- there is room for the first words times x behind them
  pub record Extensible (size x : ℕ) (w : List ℕ) : Type 0 where
    pub room : size + size ≤ length w
    pub words : (b : ℕ) → b < size → get_or w b 0 < P
    pub factor : x < P

  -- the first words stay, and times x they follow
  pub record Extended (size x : ℕ) (old new : List ℕ) : Type 0 where
    pub long : length new ≡ length old
    pub kept : (b : ℕ) → b < size → get_or new b 0 ≡ get_or old b 0
    pub more : (b : ℕ) → b < size → get_or new (size + b) 0 ≡ word (el (get_or old b 0) ⊠ el x)
