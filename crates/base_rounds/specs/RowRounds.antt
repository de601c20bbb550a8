-- A whole round of an opening over base messages of 2^low words: what it is lent, and what it leaves. Definitions only. Assumes nothing.
use Rattle.std.specs.Prelude.{◌≡◌, List, ℕ, suc, ◌+◌, ◌^◌, ◌<◌, ◌≤◌, length, take}
use Rattle.algebra.specs.Words.{PrimeField}
use Rattle.algebra.specs.Lists.{put}
use Rattle.algebra.specs.WordLists.{Low as LowWords}
use Rattle.basefold.specs.Layout.{round_at, block_at, opening_size}
use Rattle.job.specs.Limits.{max_depth}
use Rattle.residue.specs.declared.Residue.{Residue}
use Rattle.residue.specs.Elements.{Low}
use Rattle.steps.specs.Steps.{LeftAbove, sent_words}
use Rattle.base_spread.specs.LentRows.{codeword_rows, RowCoding}
use Rattle.base_steps.specs.RowSteps.{max_base, TakeResult, GiveBlockInput}
use Rattle.base_descend.specs.RowDescending.{block_above, folded_above}

module _ (𝓕 : PrimeField) where
  open 𝓕 use {modulus as P}

  -- the block of level i + 1 in the opening folds by r_i into the codeword of what is left in s
  pub record Follows (d low i k n : ℕ) (g t t' r o s : List ℕ) : Type 0 where
    pub block : LowWords P (block_above d low i n o)
    pub folded : folded_above 𝓕 d low i n t t' r o ≡ codeword_rows 𝓕 i k n g t t' (take (2 ^ (low + i)) s)

  pub record BlockInput (d low i k n : ℕ) (g t t' r o s : List ℕ) : Type 0 where
    pub encodes : GiveBlockInput 𝓕 d low i k n g t t' (length o) s
    pub challenge : i < length r
    pub challenges_low : LowWords P r
    pub follows : suc i < d → Follows d low i k n g t t' r o s

  pub record RoundInput (d low i k n : ℕ) (w : Residue) (g t t' z r o s : List ℕ) : Type 0 where
    pub level : i < d
    pub deep : low + d ≤ max_depth
    pub wide : n ≤ max_base
    pub rows : 2 ^ low ≡ k
    pub coding : RowCoding 𝓕 d k n g t t'
    pub weight : Low 𝓕 w
    pub point : length z ≡ low + d
    pub challenges : length r ≡ d
    pub point_low : LowWords P z
    pub challenges_low : LowWords P r
    pub size : length o ≡ opening_size n low d
    pub above : LeftAbove 𝓕 (low + i) s
    pub upper : suc i < d → block_above d low i n o ≡ codeword_rows 𝓕 (suc i) k n g t t' (take (2 ^ suc (low + i)) s)

  -- the weight v, the opening o' and the work buffer s'; h_(i+1) is sent as that of the variable low + i
  pub record RoundResult (d low i k n : ℕ) (w : Residue) (g t t' z r o s : List ℕ) (v : Residue) (o' s' : List ℕ) : Type 0 where
    pub taken : TakeResult 𝓕 low i w z r s v s'
    pub opened : o' ≡ put (block_at n low d i) (codeword_rows 𝓕 i k n g t t' (take (2 ^ (low + i)) s')) (put (round_at d (suc i)) (sent_words 𝓕 (low + i) w z s) o)
