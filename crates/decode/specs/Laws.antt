-- What holds where a block may be decoded, and what the contract of decoding says of two results and of codewords. Assumes nothing.
use Rattle.std.specs.Prelude.{◌≡◌, refl, ◌↔◌, Bool, ◌&&◌, List, [], ◌∷◌, ℕ, ◌*◌, ◌^◌, ◌≤◌, eqb, length, replicate}
use Rattle.std.proofs.Math.Path.{sym, ap}
use Rattle.std.proofs.Common.{◌∙◌, arith, eqb-true}
use Rattle.std.proofs.Math.Bool.{true, false, cond, false≢true}
use Rattle.std.proofs.Math.Nat.{mul-le-mul_right}
use Rattle.std.proofs.Math.ListN.{length-replicate}
use Rattle.std.proofs.lemmas.List.{get_or-replicate}
use Rattle.algebra.specs.Tests.{and_both}
use Rattle.algebra.specs.Words.{PrimeField}
use Rattle.algebra.specs.WordLists.{Low, elements, to_words, length_elements, elements_words, words_elements, modulus_pos}
use Rattle.foldable.specs.Code.{Codeword}
use Rattle.foldable.specs.Unique.{Unique}
use Rattle.determinant.specs.Determinant.{inverse}
use Rattle.determinant.specs.Exactly.{invertible, singular_exactly}
use Rattle.determinant.specs.Inverse.{Inverse, Singular}
use Rattle.blocks.specs.Decoders.{unique_inverse}
use Rattle.job.specs.Outcome.{Answer}
use Rattle.job.specs.declared.Input.TheVariants.{Block}
use Rattle.job.specs.declared.Refusal.TheVariants.{BaseRow}
use Rattle.job.specs.Outcome.{Numbers, Outcome, refused, done, due, demand, outcome}
use Rattle.job.specs.OutcomeLaws.{demand_done, demand_held, same_answer, named}
use Rattle.job.specs.Limits.{rate_ok, block_size}
use Rattle.job.specs.LimitLaws.{rate_least}
use Rattle.job.specs.Sizes.{depth_ok, k0_ok, in_limits, base_size, message_size}
use Rattle.job.specs.SizeLaws.{within, size_least, size_most, base_most, block_most}
use Rattle.words.specs.Scans.{all_below, none_zero}
use Rattle.words.specs.ScanLaws.{all_below_lem, all_differ_lem}
use Rattle.places.specs.Inputs.{no_zero}
use Rattle.parameters.specs.Parameters.{Sized, RowScanned}
use Rattle.cofactor.specs.Rows.{Lent, first_columns}
use Rattle.cofactor.specs.RowLaws.{first_square, rows_count}
use Rattle.base_matrix.specs.declared.Inverted.{Inverted}
use Rattle.base_matrix.specs.Inverting.{Inverts, base_ok}
use Rattle.base_matrix.specs.Laws.{base_exactly, legal_inverse}
use Rattle.base_parameters.specs.Parameters.{row_lengths, legal_base, Flagged}
use Rattle.base_parameters.specs.ParameterLaws.{row_short, flagged, rows_passed, legal_passed, within_of, lengths_of, words_of, lent_of, apart_of}
use Rattle.base_parameters.specs.NamedLaws.{judge_number}
use Rattle.base_spread.specs.LentRows.{lent_rows, codeword_rows, RowCoding}
use Rattle.base_spread.specs.LentRowLaws.{row_coding}
use Rattle.base_undo.specs.Steps.{RowsInput}
use Rattle.base_decode.specs.Decoding.{DecodeRows}
use Rattle.base_settle.specs.Settling.{Settled, message, none}
use Rattle.decode.specs.Decoding.{decode_lengths, judge_decoding, Decoded, refusal, settled}

-- what the test of the lengths says
pub record Lengths (d c k g t t' b m s : ℕ) : Type 0 where
  pub rows : row_lengths d c k g t t' ≡ true
  pub block : b ≡ block_size (base_size c k) d
  pub message : m ≡ message_size d k
  pub work : s ≡ block_size (base_size c k) d

pub lengths : (d c k g t t' b m s : ℕ) → decode_lengths d c k g t t' b m s ≡ true → Lengths d c k g t t' b m s
unfolding decode_lengths
lengths d c k g t t' b m s e =
    let l = and_both (row_lengths d c k g t t') _ e in
    let l₂ = and_both (eqb b (block_size (base_size c k) d)) _ l.1 in
    let l₃ = and_both (eqb m (message_size d k)) _ l₂.1 in
    record { rows = l.0; block = eqb-true _ _ l₂.0; message = eqb-true _ _ l₃.0; work = eqb-true _ _ l₃.1 }

-- by a flag of all lengths
module _ (d c k : ℕ) (g t t' b : List ℕ) (m s : ℕ) {l : Bool} (e : l ≡ (in_limits d c k && decode_lengths d c k (length g) (length t) (length t') (length b) m s)) where
  told : l ≡ true → (in_limits d c k ≡ true) × (decode_lengths d c k (length g) (length t) (length t') (length b) m s ≡ true)
  told f = and_both (in_limits d c k) _ (sym e ∙ f)

  long : l ≡ true → Lengths d c k (length g) (length t) (length t') (length b) m s
  long f = lengths d c k (length g) (length t) (length t') (length b) m s (told f).1

  -- where the lengths are right, each word has an index
  pub decode_sized : Sized l g t t' b [] [] [] []
  decode_sized f =
      let most = block_most (within d c k (told f).0) d (omega arith) in
      row_short d c k g t t' b [] [] [] [] (told f).0 (long f).rows (omega (arith, (long f).block, most)) (omega arith) (omega arith) (omega arith) (omega arith)

  -- and the base matrix its length; where the words are right, so are its own
  pub decode_flagged : (𝓕 : PrimeField) {row apart words : Bool} → RowScanned 𝓕 l g t t' row apart → (words ≡ true → row ≡ true) → Flagged 𝓕 c k g l words
  decode_flagged 𝓕 𝓢 w = flagged 𝓕 d c k g t t' (λ f. (long f).rows) 𝓢 w

module _ (𝓕 : PrimeField) where
  open 𝓕 use {modulus as P, field as F}
  open F use {ring as K}

  -- the tests do not give 8
  no_eight : (d c k : ℕ) (g t t' b : List ℕ) (m s : ℕ) (n : Numbers) → judge_decoding 𝓕 d c k g t t' b m s ≡ refused n → n.0 ≡ 8 → ⊥
  unfolding judge_decoding
  no_eight d c k g t t' b m s n =
      judge_number 𝓕 (λ n. n ≡ 8 → ⊥) (λ k lo hi e. omega arith) (λ e. omega arith) d c k g t t' (decode_lengths d c k (length g) (length t) (length t') (length b) m s) ((Block, b) ∷ [])

  -- where 5 is not due, the base matrix passes its test
  base_passed : (k n : ℕ) (g : List ℕ) → legal_base 𝓕 k n g ≡ done tt → base_ok 𝓕 k n g ≡ true
  unfolding legal_base base_ok
  base_passed k n g e = go (eqb k 1) _ e
    where
      go : (b x : Bool) → cond b (no_zero g) (demand (cond b (none_zero g) x) (due (BaseRow 0))) ≡ done tt → cond b (none_zero g) x ≡ true
      go true x h = demand_held (none_zero g) _ h
      go false x h = demand_held x _ h

  -- what is known where no refusal but 8 is due, with a result of m words and a work buffer of s
  pub record MayDecode (d c k : ℕ) (g t t' b : List ℕ) (m s : ℕ) : Type 0 where
    pub within : in_limits d c k ≡ true
    pub coding : RowCoding 𝓕 d k (base_size c k) g t t'
    pub base : base_ok 𝓕 k (base_size c k) g ≡ true
    pub input : RowsInput 𝓕 d k (base_size c k) t t' b s
    pub result : m ≡ message_size d k

  pub decodes : (d c k : ℕ) (g t t' b : List ℕ) (m s : ℕ) → judge_decoding 𝓕 d c k g t t' b m s ≡ done tt → MayDecode d c k g t t' b m s
  unfolding judge_decoding
  decodes d c k g t t' b m s e =
      let p = rows_passed 𝓕 d c k g t t' (decode_lengths d c k (length g) (length t) (length t') (length b) m s) ((Block, b) ∷ []) e in
      let l = lengths d c k (length g) (length t) (length t') (length b) m s p.lengths in
      let 𝓡 = legal_passed 𝓕 p l.rows in
      let r = lengths_of 𝓕 𝓡 in
      let w = words_of 𝓕 𝓡 in
      let 𝓦 = within_of 𝓕 𝓡 in
      let x = apart_of 𝓕 𝓡 in
      let two = rate_least c (and_both (rate_ok c) (k0_ok k) (and_both (depth_ok k d) _ p.within).1).0 in
      let wide : 2 * k ≤ c * k = mul-le-mul_right k two in
      record {
        within = p.within;
        coding = row_coding 𝓕 (lent_of 𝓕 𝓡) r.first r.second w.first w.second x.1;
        base = base_passed k (base_size c k) g x.0;
        input =
            record {
              input =
                  record {
                    depth = 𝓦.depth;
                    wide = base_most 𝓦;
                    first = r.first;
                    second = r.second;
                    low = w.first;
                    low' = w.second;
                    apart = λ n h. all_differ_lem t t' x.1 n h (omega (arith, r.first, r.second));
                    sized = l.block;
                    block = all_below_lem 𝓕 b (demand_done (all_below 𝓕 b) _ p.others).0;
                  };
              some = size_least 𝓦.size;
              few = size_most 𝓦.size;
              narrow = omega arith;
              work = l.work;
            };
        result = l.message;
      }

  -- the first columns of a base matrix that passes its test have an inverse
  module _ (k n : ℕ) (g : List ℕ) (𝓛 : Lent 𝓕 k n g) (ok : base_ok 𝓕 k n g ≡ true) where
    pub unit : {r : Inverted} → Inverts 𝓕 k n g r → r.singular ≡ false
    unit 𝓘 = legal_inverse 𝓕 k n g 𝓛 (rw ok at (base_exactly 𝓕 k n g 𝓛)) 𝓘

    zeros : Inverted
    zeros = record { singular = true; m = replicate 16 0 }

    singular_zeros : Singular K k (first_columns 𝓕 k n g) → Inverts 𝓕 k n g zeros
    unfolding zeros
    singular_zeros s =
        record {
          refused = (λ _. s, λ _. refl);
          none = λ _. refl;
          inverse = λ e. absurd (false≢true (sym e));
          sixteen = length-replicate {A = ℕ} 16 0;
          low = record { low = λ i h. rw (get_or-replicate {A = ℕ} 16 i 0 0 h) (modulus_pos 𝓕) };
        }

    first_inverse : Inverse K k (first_columns 𝓕 k n g) (inverse F k (first_columns 𝓕 k n g))
    unfolding zeros
    first_inverse =
        let 𝓢 = first_square 𝓕 k n g 𝓛.few (omega (arith, 𝓛.long)) in
        invertible F k (first_columns 𝓕 k n g) 𝓢 (λ z. false≢true (sym (unit (singular_zeros ((singular_exactly F k (first_columns 𝓕 k n g) 𝓢).0 z)))))

  -- its first columns may be inverted, and with what that answers the work may be done; n is the words of a base row as computed
  module _ (d c k : ℕ) (g t t' b : List ℕ) (m s : ℕ) (𝓓 : MayDecode d c k g t t' b m s) {n : ℕ} (e : n ≡ base_size c k) where
    pub base_lent : Lent 𝓕 k n g
    base_lent = rw e 𝓓.coding.lent

    pub decode_rows : {r : Inverted} → Inverts 𝓕 k n g r → DecodeRows 𝓕 d k n g r.m t t' b s
    decode_rows 𝓘 = record {
      coding = rw e 𝓓.coding;
      input = rw e 𝓓.input;
      sixteen = 𝓘.sixteen;
      low = 𝓘.low;
      inverse = 𝓘.inverse (unit k n g base_lent (rw e 𝓓.base) 𝓘);
    }

  -- a legal code whose base matrix passes its test, and a block
  module _ (d k n : ℕ) (g t t' b : List ℕ) (𝓒 : RowCoding 𝓕 d k n g t t') (ok : base_ok 𝓕 k n g ≡ true) where
    count : length (lent_rows 𝓕 k n g t t').G₀ ≡ k
    count = rows_count 𝓕 k n g 𝓒.lent.few (omega (arith, 𝓒.lent.long))

    -- words whose codeword the block is
    codeword_of : (m : List ℕ) → length m ≡ k * 2 ^ d → codeword_rows 𝓕 d k n g t t' m ≡ b → Codeword F (lent_rows 𝓕 k n g t t') d (elements 𝓕 b)
    codeword_of m l e = record { message = elements 𝓕 m; sized = length_elements 𝓕 m ∙ l ∙ ap (λ a. a * 2 ^ d) (sym count); encodes = sym (elements_words 𝓕 _) ∙ ap (elements 𝓕) e }

    one_code : Unique F (lent_rows 𝓕 k n g t t') d
    unfolding first_columns
    one_code = unique_inverse F (lent_rows 𝓕 k n g t t') k count 𝓒.lent.few _ (first_inverse k n g 𝓒.lent ok) d 𝓒.legal

    one_message : (m m' : List ℕ) → length m ≡ k * 2 ^ d → length m' ≡ k * 2 ^ d → Low P m → Low P m'
        → codeword_rows 𝓕 d k n g t t' m ≡ b → codeword_rows 𝓕 d k n g t t' m' ≡ b → m ≡ m'
    unfolding codeword_of
    one_message m m' l l' p q x y =
        sym (words_elements 𝓕 m p) ∙ ap (to_words 𝓕) (one_code (elements 𝓕 b) (codeword_of m l x) (codeword_of m' l' y)) ∙ words_elements 𝓕 m' q

    settled_message : (old : List ℕ) (r : Answer) (out m : List ℕ) → Settled 𝓕 d k n g t t' b old r out → length m ≡ k * 2 ^ d → Low P m → codeword_rows 𝓕 d k n g t t' m ≡ b
        → (outcome r ≡ done tt) × (out ≡ m)
    settled_message old r out m (message a l p e) lm q f = (a, one_message out m l lm p q e f)
    settled_message old r out m (none a x s) lm q f = absurd (x (codeword_of m lm f))

    settled_same : (old : List ℕ) (r r' : Answer) (out out' : List ℕ) → Settled 𝓕 d k n g t t' b old r out → Settled 𝓕 d k n g t t' b old r' out' → (outcome r ≡ outcome r') × (out ≡ out')
    settled_same old r r' out out' (message a l p e) s = let x = settled_message old r' out' out s l p e in (a ∙ sym x.0, sym x.1)
    settled_same old r r' out out' (none a x s) (message a' l p e) = absurd (x (codeword_of out' l e))
    settled_same old r r' out out' (none a x s) (none a' x' s') = (a ∙ sym a', s ∙ sym s')

    settled_exactly : (old : List ℕ) (r : Answer) (out : List ℕ) → Settled 𝓕 d k n g t t' b old r out → (outcome r ≡ done tt) ↔ Codeword F (lent_rows 𝓕 k n g t t') d (elements 𝓕 b)
    settled_exactly old r out (message a l p e) = (λ _. codeword_of out l e, λ _. a)
    settled_exactly old r out (none a x s) = (λ y. absurd (let z : ◌≡◌ {A = ℕ} 0 1 = cc in omega arith), λ w. absurd (x w))

  module _ (d c k : ℕ) (g t t' b old space : List ℕ) where
    abbrev n : ℕ
    n = base_size c k

    abbrev Result : Answer → List ℕ → List ℕ → Type 0
    Result r out work = Decoded 𝓕 d c k g t t' b old space r out work

    abbrev judged : Outcome (Unit {0})
    judged = judge_decoding 𝓕 d c k g t t' b (length old) (length space)

    known : judged ≡ done tt → MayDecode d c k g t t' b (length old) (length space)
    known e = decodes d c k g t t' b (length old) (length space) e

    -- the contract determines the answer, the result and the work buffer
    pub determined : (r r' : Answer) (out out' work work' : List ℕ) → Result r out work → Result r' out' work' → (r ≡ r') × (out ≡ out') × (work ≡ work')
    determined r r' out out' work work' (refusal n j a o w) (refusal n' j' a' o' w') = (same_answer r r' (a ∙ sym j ∙ j' ∙ sym a'), o ∙ sym o', w ∙ sym w')
    determined r r' out out' work work' (refusal n j a o w) (settled j' s' w') = absurd (let z : ◌≡◌ {A = ℕ} 0 1 = cc in omega arith)
    determined r r' out out' work work' (settled j s w) (refusal n j' a' o' w') = absurd (let z : ◌≡◌ {A = ℕ} 0 1 = cc in omega arith)
    determined r r' out out' work work' (settled j s w) (settled j' s' w') =
        let x = settled_same d k n g t t' b (known j).coding (known j).base old r r' out out' s s' in
        (same_answer r r' x.0, x.1, w ∙ sym w')

    module _ (r : Answer) (out work : List ℕ) (j : judged ≡ done tt) where
      -- where no refusal before 8 is due, a message is given exactly where the block is a codeword
      pub exactly : Result r out work → (outcome r ≡ done tt) ↔ Codeword F (lent_rows 𝓕 k n g t t') d (elements 𝓕 b)
      exactly (refusal n j' a o w) = absurd (let z : ◌≡◌ {A = ℕ} 0 1 = cc in omega arith)
      exactly (settled j' s w) = settled_exactly d k n g t t' b (known j).coding (known j).base old r out s

      -- where no refusal before 8 is due, the message whose codeword the block is, is the result
      pub gives : (m : List ℕ) → length m ≡ message_size d k → Low P m → codeword_rows 𝓕 d k n g t t' m ≡ b → Result r out work → (outcome r ≡ done tt) × (out ≡ m)
      gives m l p e (refusal n j' a o w) = absurd (let z : ◌≡◌ {A = ℕ} 0 1 = cc in omega arith)
      gives m l p e (settled j' s w) = settled_message d k n g t t' b (known j).coding (known j).base old r out m s l p e

    -- 8 is given exactly where none of them is due and the block is no codeword
    pub eight : (r : Answer) (out work : List ℕ) → Result r out work → (outcome r ≡ refused (8, 0, 0)) ↔ ((judged ≡ done tt) × (Codeword F (lent_rows 𝓕 k n g t t') d (elements 𝓕 b) → ⊥))
    eight r out work (refusal n j a o w) = (
      λ e. absurd (no_eight d c k g t t' b (length old) (length space) n j (ap (λ o. (named o).0) (sym a ∙ e))),
      λ x. absurd (let f : judged ≡ done tt = x.0 in let z : ◌≡◌ {A = ℕ} 0 1 = cc in omega arith),
    )
    eight r out work (settled j (message a l p e) w) = (
      λ f. absurd (let z : ◌≡◌ {A = ℕ} 0 1 = cc in omega arith),
      λ x. absurd (x.1 (codeword_of d k n g t t' b (known j).coding (known j).base out l e)),
    )
    eight r out work (settled j (none a x s) w) = (λ _. (j, x), λ _. a)
