-- What a call is lent of base matrix and diagonals, calls with buffers of exact length, and what is said of them together. Definitions only. Assumes nothing.
use Rattle.std.specs.Prelude.{◌≡◌, ◌↔◌, ◌⊎◌, List, ℕ, suc, length, take, drop}
use Rattle.algebra.specs.Vector.{vectors}
use Rattle.algebra.specs.Words.{PrimeField}
use Rattle.algebra.specs.WordLists.{Low, elements, to_words}
use Rattle.job.specs.Outcome.{Answer}
use Rattle.job.specs.Outcome.{refused, done, outcome}
use Rattle.job.specs.Limits.{block_size, diagonals_size}
use Rattle.job.specs.Sizes.{base_size, message_size}
use Rattle.parameters.specs.Lent.{diagonal}
use Rattle.encode.specs.Encoding.{Encoded}
use Rattle.lines.specs.Folds.{fold_words}
use Rattle.fold.specs.Job.{Folded}
use Rattle.decode.specs.Decoding.{Decoded}

-- the levels below depth i of the diagonals that a call of larger depth is lent, with base blocks of n words
abbrev pub levels_below : ℕ → ℕ → List ℕ → List ℕ
levels_below n i t = take (diagonals_size n i) t

-- a call of decoding that none of 1 to 6 and 13 refuses: the block is a codeword, or 8
abbrev pub Decides : Answer → Type 0
Decides r = (outcome r ≡ done tt) ⊎ (outcome r ≡ refused (8, 0, 0))

-- what is known of the answers r of decoding a block, fa and fb of folding it by two challenges, and ra and rb of decoding both folds
pub record TwoChallenges (r fa fb ra rb : Answer) : Type 0 where
  pub whole : Decides r
  pub first_fold : outcome fa ≡ done tt
  pub second_fold : outcome fb ≡ done tt
  pub first : Decides ra
  pub second : Decides rb
  pub exactly_both : (outcome r ≡ done tt) ↔ ((outcome ra ≡ done tt) × (outcome rb ≡ done tt))

module _ (𝓕 : PrimeField) where
  infixl 66 ◌⊕◌
  infixr 71 ◌⊛◌
  open 𝓕 use {modulus as P, field as F, words as W}
  open F use {ring as K}
  open W use {el}
  open vectors K use {◌⊕◌, ◌⊛◌}

  -- what folding level i + 1 to level i writes, lent level i of the diagonals of all levels, with base blocks of n words
  abbrev pub folded_level : ℕ → ℕ → List ℕ → List ℕ → List ℕ → ℕ → List ℕ
  folded_level n i t t' w a = fold_words 𝓕 (block_size n i) (diagonal n t i) (diagonal n t' i) w a

  -- left + challenge * right of a message of 2 n words
  abbrev pub mixed : ℕ → ℕ → List ℕ → List ℕ
  mixed n a m = to_words 𝓕 (elements 𝓕 (take n m) ⊕ el a ⊛ elements 𝓕 (drop n m))

  -- calls with result and work buffers of exact length, whatever these held
  pub record ExactEncode (d c k : ℕ) (g t t' m : List ℕ) (r : Answer) (out : List ℕ) : Type 0 where
    pub old : List ℕ
    pub sized : length old ≡ block_size (base_size c k) d
    pub call : Encoded 𝓕 d c k g t t' m old r out

  -- of level i + 1 to level i, lent level i of the diagonals of all levels
  pub record ExactFold (i c k : ℕ) (t t' w : List ℕ) (a : ℕ) (r : Answer) (out : List ℕ) : Type 0 where
    pub old : List ℕ
    pub sized : length old ≡ block_size (base_size c k) i
    pub call : Folded 𝓕 (suc i) c k (diagonal (base_size c k) t i) (diagonal (base_size c k) t' i) w a old r out

  pub record ExactDecode (d c k : ℕ) (g t t' w : List ℕ) (r : Answer) : Type 0 where
    pub old : List ℕ
    pub space : List ℕ
    pub out : List ℕ
    pub work : List ℕ
    pub sized : length old ≡ message_size d k
    pub room : length space ≡ block_size (base_size c k) d
    pub call : Decoded 𝓕 d c k g t t' w old space r out work

  -- a block of level d, and a message of depth d, of residues
  pub record ResidueBlock (d c k : ℕ) (w : List ℕ) : Type 0 where
    pub sized : length w ≡ block_size (base_size c k) d
    pub low : Low P w

  pub record ResidueMessage (d k : ℕ) (m : List ℕ) : Type 0 where
    pub sized : length m ≡ message_size d k
    pub low : Low P m
