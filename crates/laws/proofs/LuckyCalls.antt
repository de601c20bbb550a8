-- The law of lucky challenges, said of calls: a block that decoding refuses with 8 is folded down by every list of challenges, and what is left is decoded; no call of folding is refused,
-- and of the p^d decodings at most p^d - (p-1)^d give a message.
--     folds_down_calls, lucky_calls
-- Assumes nothing.
use Rattle.std.proofs.Math.Path.{◌≡◌, ap, subst}
use Rattle.std.proofs.Common.{sym, ◌∙◌, mul-zero}
use Rattle.std.specs.Prelude.{◌↔◌, get_or, take}
use mathlib.Core.List.{List, [], ◌∷◌, filter_congr}
use Prim.Native.Nat.{ℕ, zero, suc, ◌-◌, ◌^◌, ◌<◌, ◌≤◌}
use native.Mathlib.Omega.{arith}
use Rattle.std.proofs.Math.ListN.{length}
use Rattle.algebra.specs.Words.{PrimeField}
use Rattle.algebra.specs.WordLists.{Low, elements}
use Rattle.foldable.specs.Code.{Codeword}
use Rattle.foldable.specs.Prefix.{codeword_prefix}
use Rattle.counting.specs.Challenges.{challenge_words, count}
use Rattle.counting.proofs.Every.{every_challenge_words}
use Rattle.counting.proofs.Tried.{tried}
use Rattle.job.specs.Outcome.{Answer}
use Rattle.job.specs.Outcome.{refused, done, outcome}
use Rattle.job.specs.Sizes.{base_size}
use Rattle.base_parameters.specs.Parameters.{LegalRows}
use Rattle.base_spread.specs.LentRows.{lent_rows}
use Rattle.laws.specs.Calls.{levels_below, ExactDecode, ResidueBlock}
use Rattle.laws.specs.NotRefused.{rows_below}
use Rattle.laws.specs.FoldCalls.{fold_writes, folded_block, decode_answers}
use Rattle.laws.specs.Descents.{folded_down, BaseTest, lucky_lists, FoldsDown, FoldsAndDecodes, AllDone, done?}
use Rattle.laws.proofs.Lucky.{lucky_law}

module _ (𝓕 : PrimeField) {d c k : ℕ} {g t t' : List ℕ} (𝓡 : LegalRows 𝓕 d c k g t t') where
  open 𝓕 use {modulus as P, field as F}

  -- the words of a base block
  abbrev n : ℕ
  n = base_size c k

  -- what is known of calls of folding from level i down to level 0: none is refused, and what they leave
  pub record Left (i : ℕ) (r w : List ℕ) (answers : List Answer) (v : List ℕ) : Type 0 where
    pub each : AllDone answers
    pub is : v ≡ folded_down 𝓕 (base_size c k) i t t' r w
    pub block : ResidueBlock 𝓕 0 c k v

  pub folds_down_calls : (r : List ℕ) (i : ℕ) → i ≤ d → ((j : ℕ) → j < i → get_or r j 0 < P) → (w : List ℕ) (answers : List Answer) (v : List ℕ) → ResidueBlock 𝓕 i c k w
      → FoldsDown 𝓕 c k t t' r i w answers v → Left i r w answers v
  unfolding folded_down FoldsDown AllDone
  folds_down_calls r zero h low w [] v 𝓦 e = record { each = tt; is = e; block = subst (ResidueBlock 𝓕 0 c k) (sym e) 𝓦 }
  folds_down_calls r zero h low w (a ∷ rest) v 𝓦 e = absurd e
  folds_down_calls r (suc i) h low w [] v 𝓦 e = absurd e
  folds_down_calls r (suc i) h low w (a ∷ rest) v 𝓦 e =
      let x = fold_writes 𝓕 𝓡 h 𝓦 (low i (omega arith)) e.1 in
      let block = subst (ResidueBlock 𝓕 i c k) (sym x.1) (folded_block 𝓕 𝓡 h w (get_or r i 0) 𝓦) in
      let y = folds_down_calls r i (omega arith) (λ j l. low j (omega arith)) e.0 rest v block e.2 in
      record { each = (x.0, y.each); is = y.is ∙ ap (folded_down 𝓕 n i t t' r) x.1; block = y.block }

  -- at depth 0 no diagonals are lent
  base_rows : LegalRows 𝓕 0 c k g [] []
  base_rows =
      let none : (s : List ℕ) → levels_below n 0 s ≡ [] = λ s. ap (λ x. take x s) (mul-zero n) in
      subst (λ s. LegalRows 𝓕 0 c k g s []) (none t) (subst (λ s. LegalRows 𝓕 0 c k g (levels_below n 0 t) s) (none t') (rows_below 𝓕 𝓡 0 (omega arith)))

  -- decoding what is left gives a message exactly when it is a codeword of level 0
  decodes_left : (v : List ℕ) (a : Answer) → ResidueBlock 𝓕 0 c k v → ExactDecode 𝓕 0 c k g [] [] v a → (outcome a ≡ done tt) ↔ Codeword F (lent_rows 𝓕 k n g t t') 0 (elements 𝓕 v)
  decodes_left v a 𝓥 e =
      let x = (decode_answers 𝓕 base_rows 𝓥 e).1 in
      let none : (s u : ℕ → List F.ring.R) (j : ℕ) → j < 0 → s j ≡ u j = λ s u j h. absurd (omega arith) in
      (λ h. codeword_prefix F _ _ _ _ _ _ 0 (none _ _) (none _ _) (x.0 h), λ h. x.1 (codeword_prefix F _ _ _ _ _ _ 0 (none _ _) (none _ _) h))

  -- by a list of challenges: decoding gives a message exactly when the list is among the lucky
  pub lucky_call : (w r : List ℕ) (a : Answer) → ResidueBlock 𝓕 d c k w → length r ≡ d → Low P r → FoldsAndDecodes 𝓕 d c k g t t' w r a
      → (outcome a ≡ done tt) ↔ Codeword F (lent_rows 𝓕 k (base_size c k) g t t') 0 (elements 𝓕 (folded_down 𝓕 (base_size c k) d t t' r w))
  lucky_call w r a 𝓦 e low x =
      let y = folds_down_calls r d (omega arith) (λ j h. low.low j (omega arith)) w x.answers x.left 𝓦 x.folded in
      subst (λ v. (outcome a ≡ done tt) ↔ Codeword F (lent_rows 𝓕 k n g t t') 0 (elements 𝓕 v)) y.is (decodes_left x.left a y.block x.decoded)

  -- a block that decoding refuses with 8, folded down by each list of challenges and decoded at level 0: of the p^d answers at most p^d - (p-1)^d give a message
  pub lucky_calls : (w : List ℕ) (b : Answer) → ResidueBlock 𝓕 d c k w → ExactDecode 𝓕 d c k g t t' w b → outcome b ≡ refused (8, 0, 0)
      → (answer : List ℕ → Answer) → ((r : List ℕ) → length r ≡ d → Low P r → FoldsAndDecodes 𝓕 d c k g t t' w r (answer r))
      → count (λ r. done? (answer r)) (challenge_words P d) ≤ P ^ d - (P - 1) ^ d
  unfolding lucky_lists
  lucky_calls w b 𝓦 e eight answer calls =
      let C = lent_rows 𝓕 k n g t t' in
      let no_codeword : Codeword F C d (elements 𝓕 w) → ⊥ = λ x. let q = (decode_answers 𝓕 𝓡 𝓦 e).1.1 x in let z : ◌≡◌ {A = ℕ} 0 1 = cc in omega arith in
      let test : BaseTest 𝓕 k n g t t' = λ v. tried 𝓕 C 0 (elements 𝓕 v) in
      let same = filter_congr (λ r. done? (answer r)) (λ r. test (folded_down 𝓕 n d t t' r w)) (challenge_words P d) (λ r m. let h = (every_challenge_words P d r).0 m in lucky_call w r (answer r) 𝓦 h.0 h.1 (calls r h.0 h.1)) in
      omega (arith, ap length same, lucky_law 𝓕 𝓡 test w 𝓦.sized no_codeword)
