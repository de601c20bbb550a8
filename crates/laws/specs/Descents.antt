-- A block folded down to level 0 call by call, what decoding says of what is left, and how many lists of challenges leave a codeword. Definitions only. Assumes nothing.
use Rattle.std.specs.Prelude.{◌≡◌, refl, List, [], ◌∷◌, ℕ, zero, suc, get_or}
use Rattle.std.proofs.Common.{arith}
use Rattle.algebra.specs.Words.{PrimeField}
use Rattle.algebra.specs.WordLists.{elements}
use Rattle.foldable.specs.Code.{Codeword}
use Rattle.counting.specs.Challenges.{challenge_words, count}
use Rattle.job.specs.Outcome.{Answer}
use Rattle.std.specs.Prelude.{Ok, Err}
use Rattle.job.specs.Outcome.{done, outcome}
use Rattle.base_spread.specs.LentRows.{lent_rows}
use Rattle.laws.specs.Calls.{folded_level, ExactFold, ExactDecode}

-- no call refuses
unfoldable pub AllDone : List Answer → Type 0
AllDone [] = Unit {0}
AllDone (a ∷ rest) = (outcome a ≡ done tt) × AllDone rest

-- whether a call is done
pub done? : (a : Answer) → Dec (outcome a ≡ done tt)
done? (Ok tt) = yes refl
done? (Err r) = no (λ e. let z : ◌≡◌ {A = ℕ} 0 1 = cc in omega arith)

module _ (𝓕 : PrimeField) where
  open 𝓕 use {modulus as P, field as F}

  -- what folding a block of level i leaves at level 0: level by level, by r[i - 1] first and by r[0] last, with base blocks of n words
  unfoldable pub folded_down : ℕ → ℕ → List ℕ → List ℕ → List ℕ → List ℕ → List ℕ
  folded_down n zero t t' r w = w
  folded_down n (suc i) t t' r w = folded_down n i t t' r (folded_level 𝓕 n i t t' w (get_or r i 0))

  -- a test of whether the words of a block of level 0 are a codeword
  abbrev pub BaseTest : ℕ → ℕ → List ℕ → List ℕ → List ℕ → Type 0
  BaseTest k n g t t' = (v : List ℕ) → Dec (Codeword F (lent_rows 𝓕 k n g t t') 0 (elements 𝓕 v))

  -- how many of the lists of d words below p, as challenges, fold the block w of level d into a codeword of level 0
  unfoldable pub lucky_lists : (d k n : ℕ) (g t t' : List ℕ) → BaseTest k n g t t' → List ℕ → ℕ
  lucky_lists d k n g t t' test w = count (λ r. test (folded_down n d t t' r w)) (challenge_words P d)

  -- calls of folding from level i down to level 0, each on what the call before it wrote: their answers in turn, and what is left
  unfoldable pub FoldsDown : ℕ → ℕ → List ℕ → List ℕ → List ℕ → ℕ → List ℕ → List Answer → List ℕ → Type 0
  FoldsDown c k t t' r zero w [] v = v ≡ w
  FoldsDown c k t t' r zero w (a ∷ rest) v = ⊥
  FoldsDown c k t t' r (suc i) w [] v = ⊥
  FoldsDown c k t t' r (suc i) w (a ∷ rest) v = (u : List ℕ) × ExactFold 𝓕 i c k t t' w (get_or r i 0) a u × FoldsDown c k t t' r i u rest v

  -- a block of level d folded down by r, and a call of decoding at depth 0, lent no diagonals, on what is left: its answer
  pub record FoldsAndDecodes (d c k : ℕ) (g t t' w r : List ℕ) (a : Answer) : Type 0 where
    pub answers : List Answer
    pub left : List ℕ
    pub folded : FoldsDown c k t t' r d w answers left
    pub decoded : ExactDecode 𝓕 0 c k g [] [] left a
