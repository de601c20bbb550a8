-- The laws of folds, said of calls: none is refused, and what they write and answer stands in the law's relation.
--     two_challenge_calls; fold_law_calls is in proofs/FoldLawCalls
-- Assumes nothing.
use Rattle.std.specs.Prelude.{◌≡◌, ◌↔◌, List, ℕ, suc, ◌-◌, ◌<◌, length}
use Rattle.std.proofs.Common.{sym, ap, subst, ◌∙◌, inl, inr, arith}
use Rattle.algebra.specs.Words.{PrimeField}
use Rattle.algebra.specs.WordLists.{low_words, elements, length_elements, length_words_lem}
use Rattle.foldable.specs.Code.{Codeword}
use Rattle.foldable.specs.Encode.{length_encode}
use Rattle.foldable.specs.Fold.{length_fold}
use Rattle.basefold.specs.Descent.{legal_at}
use Rattle.job.specs.Outcome.{Answer}
use Rattle.job.specs.Outcome.{done, outcome, kept}
use Rattle.job.specs.Limits.{block_size}
use Rattle.job.specs.Sizes.{base_size}
use Rattle.parameters.specs.Lent.{diagonal}
use Rattle.base_parameters.specs.Parameters.{LegalRows}
use Rattle.base_spread.specs.LentRows.{lent_rows, codeword_rows}
use Rattle.lines.specs.Folds.{fold_words}
use Rattle.base_settle.specs.Settling.{Settled, message, none}
use Rattle.decode.specs.Decoding.{judge_decoding, Decoded, refusal, settled}
use Rattle.decode.specs.Laws.{exactly}
use Rattle.laws.specs.Calls.{levels_below, folded_level, ExactEncode, ExactFold, ExactDecode, ResidueBlock, ResidueMessage, Decides, TwoChallenges}
use Rattle.laws.specs.CallLaws.{coding_of}
use Rattle.laws.specs.NotRefused.{encoding_done, decoding_done, folding_done, rows_below}
use Rattle.laws.specs.Folds.{fold_is, two_challenge_law}

module _ (𝓕 : PrimeField) where
  open 𝓕 use {modulus as P, field as F, words as W}
  open F use {ring as K}
  open W use {el}

  -- what a call that is not refused answers and writes
  module _ {d c k : ℕ} {g t t' : List ℕ} (𝓡 : LegalRows 𝓕 d c k g t t') where
    pub encode_writes : {m : List ℕ} {r : Answer} {out : List ℕ} → ResidueMessage 𝓕 d k m → ExactEncode 𝓕 d c k g t t' m r out
        → (outcome r ≡ done tt) × (out ≡ codeword_rows 𝓕 d k (base_size c k) g t t' m)
    encode_writes {m} 𝓜 e =
        let j = encoding_done 𝓕 𝓡 m (length e.old) 𝓜.sized 𝓜.low e.sized in
        (e.call.answer ∙ j, e.call.result ∙ ap (λ o. kept o e.old (codeword_rows 𝓕 d k (base_size c k) g t t' m)) j)

    pub codeword_block : (m : List ℕ) → ResidueBlock 𝓕 d c k (codeword_rows 𝓕 d k (base_size c k) g t t' m)
    codeword_block m = record { sized = length_words_lem 𝓕 _ ∙ length_encode F (lent_rows 𝓕 k (base_size c k) g t t') d (coding_of 𝓕 𝓡).legal (elements 𝓕 m); low = low_words 𝓕 _ }

  -- level i of the diagonals of all levels
  module _ {d i c k : ℕ} {g t t' : List ℕ} (𝓡 : LegalRows 𝓕 d c k g t t') (h : i < d) where
    pub fold_writes : {w : List ℕ} {a : ℕ} {r : Answer} {out : List ℕ} → ResidueBlock 𝓕 (suc i) c k w → a < P → ExactFold 𝓕 i c k t t' w a r out
        → (outcome r ≡ done tt) × (out ≡ folded_level 𝓕 (base_size c k) i t t' w a)
    fold_writes {w} {a} 𝓦 l e =
        let n = base_size c k in
        let one : suc i - 1 ≡ i = omega arith in
        let j = folding_done 𝓕 𝓡 i w a (length e.old) h 𝓦.sized 𝓦.low l e.sized in (
          e.call.answer ∙ j,
          e.call.result ∙ ap (λ o. kept o e.old (fold_words 𝓕 (block_size n (suc i - 1)) (diagonal n t i) (diagonal n t' i) w a)) j
              ∙ ap (λ x. fold_words 𝓕 (block_size n x) (diagonal n t i) (diagonal n t' i) w a) one,
        )

    pub folded_block : (w : List ℕ) (a : ℕ) → ResidueBlock 𝓕 (suc i) c k w → ResidueBlock 𝓕 i c k (folded_level 𝓕 (base_size c k) i t t' w a)
    folded_block w a 𝓦 =
        let C = lent_rows 𝓕 k (base_size c k) g t t' in
        record {
          sized = ap length (fold_is 𝓕 i k (base_size c k) g t t' w a) ∙ length_words_lem 𝓕 _
              ∙ length_fold F C i (legal_at F C d (suc i) h (coding_of 𝓕 𝓡).legal) (el a) (elements 𝓕 w) (length_elements 𝓕 w ∙ 𝓦.sized);
          low = low_words 𝓕 _;
        }

  settles : {d k n : ℕ} {g t t' w old : List ℕ} {r : Answer} {out : List ℕ} → Settled 𝓕 d k n g t t' w old r out → Decides r
  settles (message a l p e) = inl a
  settles (none a n s) = inr a

  decides_of : {d c k : ℕ} {g t t' w old space : List ℕ} {r : Answer} {out work : List ℕ} → judge_decoding 𝓕 d c k g t t' w (length old) (length space) ≡ done tt
      → Decoded 𝓕 d c k g t t' w old space r out work → Decides r
  decides_of j (refusal n j' a o k) = absurd (let z : ◌≡◌ {A = ℕ} 0 1 = cc in omega arith)
  decides_of j (settled j' s k) = settles s

  -- where base matrix and diagonals are legal and the block holds residues
  pub decode_answers : {d c k : ℕ} {g t t' w : List ℕ} {r : Answer} → LegalRows 𝓕 d c k g t t' → ResidueBlock 𝓕 d c k w → ExactDecode 𝓕 d c k g t t' w r
      → Decides r × ((outcome r ≡ done tt) ↔ Codeword F (lent_rows 𝓕 k (base_size c k) g t t') d (elements 𝓕 w))
  decode_answers {d} {c} {k} {g} {t} {t'} {w} {r} 𝓡 𝓦 e =
      let j = decoding_done 𝓕 𝓡 w (length e.old) (length e.space) 𝓦.sized 𝓦.low e.sized e.room in
      (decides_of j e.call, exactly 𝓕 d c k g t t' w e.old e.space r e.out e.work j e.call)

  -- for two different challenges decoding gives a message of the block exactly when it gives one of both folds
  pub two_challenge_calls : {i c k a b : ℕ} {g t t' w wa wb : List ℕ} {r fa fb ra rb : Answer} → LegalRows 𝓕 (suc i) c k g t t' → ResidueBlock 𝓕 (suc i) c k w → a < P → b < P → (a ≡ b → ⊥)
      → ExactDecode 𝓕 (suc i) c k g t t' w r → ExactFold 𝓕 i c k t t' w a fa wa → ExactFold 𝓕 i c k t t' w b fb wb
      → ExactDecode 𝓕 i c k g (levels_below (base_size c k) i t) (levels_below (base_size c k) i t') wa ra
      → ExactDecode 𝓕 i c k g (levels_below (base_size c k) i t) (levels_below (base_size c k) i t') wb rb
      → TwoChallenges r fa fb ra rb
  two_challenge_calls {i} {c} {k} {a} {b} {g} {t} {t'} {w} {wa} {wb} 𝓡 𝓦 la lb x e fa fb ea eb =
      let n = base_size c k in
      let y = fold_writes 𝓡 (omega arith) 𝓦 la fa in
      let z = fold_writes 𝓡 (omega arith) 𝓦 lb fb in
      let block : (v : List ℕ) (u : ℕ) → v ≡ folded_level 𝓕 n i t t' w u → ResidueBlock 𝓕 i c k v = λ v u q. subst (ResidueBlock 𝓕 i c k) (sym q) (folded_block 𝓡 (omega arith) w u 𝓦) in
      let low = rows_below 𝓕 𝓡 i (omega arith) in
      let p = decode_answers 𝓡 𝓦 e in
      let q = decode_answers low (block wa a y.1) ea in
      let s = decode_answers low (block wb b z.1) eb in
      let law = two_challenge_law 𝓕 i c k g t t' 𝓡 w a b 𝓦.sized la lb x in
      let Below : List ℕ → Type 0 = λ v. Codeword F (lent_rows 𝓕 k n g (levels_below n i t) (levels_below n i t')) i (elements 𝓕 v) in
      record {
        whole = p.0;
        first_fold = y.0;
        second_fold = z.0;
        first = q.0;
        second = s.0;
        exactly_both = (
          λ h. let u = law.0 (p.1.0 h) in (q.1.1 (subst Below (sym y.1) u.0), s.1.1 (subst Below (sym z.1) u.1)),
          λ h. p.1.1 (law.1 (subst Below y.1 (q.1.0 h.0), subst Below z.1 (s.1.0 h.1))),
        );
      }
