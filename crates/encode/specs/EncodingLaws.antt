-- What is known where a message may be encoded, and what the flags of a call promise. Assumes nothing.
use Rattle.std.specs.Prelude.{◌≡◌, Bool, true, ◌&&◌, List, [], ◌∷◌, ℕ, eqb, length}
use Rattle.std.proofs.Common.{sym, ◌∙◌, arith, eqb-true}
use Rattle.algebra.specs.Tests.{and_both}
use Rattle.algebra.specs.Words.{PrimeField}
use Rattle.job.specs.declared.Input.TheVariants.{Block}
use Rattle.job.specs.Outcome.{done}
use Rattle.job.specs.OutcomeLaws.{demand_done}
use Rattle.job.specs.Limits.{block_size}
use Rattle.job.specs.Sizes.{in_limits, base_size, message_size}
use Rattle.job.specs.SizeLaws.{within}
use Rattle.words.specs.Scans.{all_below}
use Rattle.words.specs.ScanLaws.{all_below_lem}
use Rattle.parameters.specs.Parameters.{Sized, RowScanned}
use Rattle.base_parameters.specs.Parameters.{row_lengths, Flagged}
use Rattle.base_parameters.specs.ParameterLaws.{row_short, flagged, rows_passed, legal_passed, lengths_of, words_of, lent_of, apart_of}
use Rattle.base_spread.specs.LentRowLaws.{row_coding}
use Rattle.base_spread.specs.Steps.{EncodeLent}
use Rattle.encode.specs.Encoding.{encode_lengths, judge_encoding}

-- what the test of the lengths says
pub record Lengths (d c k g t t' m n : ℕ) : Type 0 where
  pub rows : row_lengths d c k g t t' ≡ true
  pub message : m ≡ message_size d k
  pub block : n ≡ block_size (base_size c k) d

pub lengths : (d c k g t t' m n : ℕ) → encode_lengths d c k g t t' m n ≡ true → Lengths d c k g t t' m n
unfolding encode_lengths
lengths d c k g t t' m n e =
    let a = and_both (row_lengths d c k g t t') _ e in
    let b = and_both (eqb m (message_size d k)) _ a.1 in
    record { rows = a.0; message = eqb-true _ _ b.0; block = eqb-true _ _ b.1 }

-- by a flag of all lengths
module _ (d c k : ℕ) (g t t' m : List ℕ) (n : ℕ) {l : Bool} (e : l ≡ (in_limits d c k && encode_lengths d c k (length g) (length t) (length t') (length m) n)) where
  told : l ≡ true → (in_limits d c k ≡ true) × (encode_lengths d c k (length g) (length t) (length t') (length m) n ≡ true)
  told f = and_both (in_limits d c k) _ (sym e ∙ f)

  long : l ≡ true → Lengths d c k (length g) (length t) (length t') (length m) n
  long f = lengths d c k (length g) (length t) (length t') (length m) n (told f).1

  -- where the lengths are right, each word has an index
  pub encode_sized : Sized l g t t' m [] [] [] []
  encode_sized f =
      let most = (within d c k (told f).0).message in
      row_short d c k g t t' m [] [] [] [] (told f).0 (long f).rows (omega (arith, (long f).message, most)) (omega arith) (omega arith) (omega arith) (omega arith)

  -- and the base matrix its length; where the words are right, so are its own
  pub encode_flagged : (𝓕 : PrimeField) {row apart words : Bool} → RowScanned 𝓕 l g t t' row apart → (words ≡ true → row ≡ true) → Flagged 𝓕 c k g l words
  encode_flagged 𝓕 𝓢 w = flagged 𝓕 d c k g t t' (λ f. (long f).rows) 𝓢 w

module _ (𝓕 : PrimeField) where
  -- no refusal is due: the sizes are within the limits
  pub encode_within : (d c k : ℕ) (g t t' m : List ℕ) (n : ℕ) → judge_encoding 𝓕 d c k g t t' m n ≡ done tt → in_limits d c k ≡ true
  unfolding judge_encoding
  encode_within d c k g t t' m n e = (rows_passed 𝓕 d c k g t t' (encode_lengths d c k (length g) (length t) (length t') (length m) n) ((Block, m) ∷ []) e).within

  -- and the message may be encoded
  pub encodes : (d c k : ℕ) (g t t' m out : List ℕ) → judge_encoding 𝓕 d c k g t t' m (length out) ≡ done tt → EncodeLent 𝓕 d k (base_size c k) g t t' m out
  unfolding judge_encoding
  encodes d c k g t t' m out e =
      let p = rows_passed 𝓕 d c k g t t' (encode_lengths d c k (length g) (length t) (length t') (length m) (length out)) ((Block, m) ∷ []) e in
      let s = lengths d c k (length g) (length t) (length t') (length m) (length out) p.lengths in
      let 𝓡 = legal_passed 𝓕 p s.rows in
      let r = lengths_of 𝓕 𝓡 in
      let w = words_of 𝓕 𝓡 in
      record {
        coding = row_coding 𝓕 (lent_of 𝓕 𝓡) r.first r.second w.first w.second (apart_of 𝓕 𝓡).1;
        message = s.message;
        words = all_below_lem 𝓕 m (demand_done (all_below 𝓕 m) _ p.others).0;
        size = s.block;
      }
