-- The base checks and the final check over base messages of several words, and what their functions are lent. Definitions only. Assumes nothing.
use Rattle.std.specs.Prelude.{◌≡◌, Bool, List, ℕ, ◌-◌, ◌^◌, ◌≤◌, ◌<◌, length, get_or}
use Rattle.algebra.specs.Matrix.{times}
use Rattle.algebra.specs.Words.{PrimeField}
use Rattle.algebra.specs.WordLists.{Low as LowWords, elements}
use Rattle.multilinear.specs.Rounds.{final_sum}
use Rattle.basefold.specs.Checks.{Check, base_check, final_check, same}
use Rattle.residue.specs.Elements.{Low, elem}
use Rattle.residue.specs.declared.Residue.{Residue}
use Rattle.cofactor.specs.Rows.{rows, Lent}

-- how many variables of the point z stay inside the base message: those that no challenge of r is for
abbrev pub low_count : List ℕ → List ℕ → ℕ
low_count z r = length z - length r

module _ (𝓕 : PrimeField) where
  open 𝓕 use {modulus as P, field as F, words as W}
  open F use {ring as K}
  open K use {R as Element, 𝟘}
  open W use {el}

  -- word j of the base block of v: the message v of k words times the base matrix g of k rows of n words
  unfoldable pub base_word : ℕ → ℕ → List ℕ → List ℕ → ℕ → Element
  base_word k n v g j = get_or (times K n (elements 𝓕 v) (rows 𝓕 k n g)) j 𝟘

  -- base j: word j of the block b is that of the base block of v
  abbrev pub base_at : ℕ → List ℕ → List ℕ → List ℕ → ℕ → Check × Bool
  base_at n v g b j = (base_check j, same F (el (get_or b j 0)) (base_word (length v) n v g j))

  -- the final check of a claim: the polynomial of v times eq, summed over the corners of the low variables
  abbrev pub last_at : Residue → List ℕ → List ℕ → List ℕ → Check × Bool
  last_at claim v z r = (final_check, same F (final_sum K (low_count z r) (elements 𝓕 v) (elements 𝓕 z) (elements 𝓕 r)) (elem 𝓕 claim))

  -- v, and a base matrix of as many rows as v has words
  pub record BaseLent (n : ℕ) (v g : List ℕ) : Type 0 where
    pub matrix : Lent 𝓕 (length v) n g
    pub low : LowWords P v

  -- one of its columns
  pub record WordLent (n : ℕ) (v g : List ℕ) (j : ℕ) : Type 0 where
    pub base : BaseLent n v g
    pub column : j < n

  -- a block of as many words as a row; each place fits a word
  pub record BasesLent (n : ℕ) (v g b : List ℕ) : Type 0 where
    pub base : BaseLent n v g
    pub narrow : n ≤ 64
    pub size : length b ≡ n
    pub block : LowWords P b

  -- a claim, v with a word for each set of low variables, a point and challenges
  pub record LastLent (claim : Residue) (v z r : List ℕ) : Type 0 where
    pub claimed : Low 𝓕 claim
    pub fewer : length r ≤ length z
    pub size : length v ≡ 2 ^ low_count z r
    pub value : LowWords P v
    pub point : LowWords P z
    pub challenges : LowWords P r
