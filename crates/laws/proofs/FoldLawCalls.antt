-- A fold of a codeword is the codeword of left + challenge * right, said of calls. Assumes nothing.
use Rattle.std.specs.Prelude.{◌≡◌, List, ℕ, suc, ◌+◌, ◌<◌, length, take, drop}
use Rattle.std.proofs.Common.{sym, ap, subst, ◌∙◌, arith, length-take, length-drop}
use Rattle.std.proofs.lemmas.List.{length-map}
use Rattle.algebra.specs.Lists.{length_zip}
use Rattle.algebra.specs.Words.{PrimeField}
use Rattle.algebra.specs.WordLists.{low_words, elements, length_elements, length_words_lem}
use Rattle.foldable.specs.Encode.{double}
use Rattle.job.specs.Outcome.{Answer}
use Rattle.job.specs.Outcome.{done, outcome}
use Rattle.job.specs.Sizes.{base_size, message_size}
use Rattle.base_parameters.specs.Parameters.{LegalRows}
use Rattle.laws.specs.Calls.{levels_below, folded_level, mixed, ExactEncode, ExactFold, ResidueBlock, ResidueMessage}
use Rattle.laws.specs.NotRefused.{rows_below}
use Rattle.laws.specs.Folds.{fold_law}
use Rattle.laws.specs.FoldCalls.{encode_writes, codeword_block, fold_writes}

module _ (𝓕 : PrimeField) where
  open 𝓕 use {modulus as P, field as F, words as W}
  open F use {ring as K}
  open W use {el}

  -- left + challenge * right is a message again
  mixed_message : (i k a : ℕ) (m : List ℕ) → length m ≡ message_size (suc i) k → ResidueMessage 𝓕 i k (mixed 𝓕 (message_size i k) a m)
  mixed_message i k a m e =
      let n = message_size i k in
      let two : message_size (suc i) k ≡ n + n = double k i in
      let left : length (elements 𝓕 (take n m)) ≡ n = length_elements 𝓕 (take n m) ∙ length-take n m ∙ omega arith in
      let right : length (elements 𝓕 (drop n m)) ≡ n = length_elements 𝓕 (drop n m) ∙ length-drop n m ∙ omega arith in
      record { sized = length_words_lem 𝓕 _ ∙ length_zip K.◌+◌ (elements 𝓕 (take n m)) _ n left (length-map (elements 𝓕 (drop n m)) (K.◌*◌ (el a)) ∙ right); low = low_words 𝓕 _ }

  module _ {i c k : ℕ} {g t t' : List ℕ} (𝓡 : LegalRows 𝓕 (suc i) c k g t t') where
    -- encoding, folding the block by a, and encoding left + a * right: none is refused, and the fold is that codeword
    pub fold_law_calls : {m : List ℕ} {a : ℕ} {r r₂ r₃ : Answer} {w b b' : List ℕ} → ResidueMessage 𝓕 (suc i) k m → a < P
        → ExactEncode 𝓕 (suc i) c k g t t' m r w → ExactFold 𝓕 i c k t t' w a r₂ b
        → ExactEncode 𝓕 i c k g (levels_below (base_size c k) i t) (levels_below (base_size c k) i t') (mixed 𝓕 (message_size i k) a m) r₃ b'
        → (outcome r ≡ done tt) × (outcome r₂ ≡ done tt) × (outcome r₃ ≡ done tt) × (b ≡ b')
    fold_law_calls {m} {a} {w = w} 𝓜 l e f h =
        let x = encode_writes 𝓕 𝓡 𝓜 e in
        let y = fold_writes 𝓕 𝓡 (omega arith) (subst (ResidueBlock 𝓕 (suc i) c k) (sym x.1) (codeword_block 𝓕 𝓡 m)) l f in
        let z = encode_writes 𝓕 (rows_below 𝓕 𝓡 i (omega arith)) (mixed_message i k a m 𝓜.sized) h in
        (x.0, y.0, z.0, y.1 ∙ ap (λ v. folded_level 𝓕 (base_size c k) i t t' v a) x.1 ∙ fold_law 𝓕 i c k g t t' 𝓡 m a 𝓜.sized ∙ sym z.1)
