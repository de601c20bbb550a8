-- A block is a codeword exactly where it is that of the message which its first k columns allow. Assumes nothing.
use mathlib.Core.Path.{◌≡◌, refl, sym, ap, ◌∙◌}
use mathlib.Core.Bool.{Bool, true, false, false≢true}
use mathlib.Core.List.{List}
use Prim.Native.Nat.{ℕ, ◌*◌, ◌^◌, ◌<◌, ◌≤◌}
use native.Mathlib.Nat.{mul-one}
use native.Mathlib.Omega.{arith}
use lib.ListN.{length, take}
use Rattle.algebra.specs.Matrix.{times, length_times}
use Rattle.algebra.specs.Words.{PrimeField}
use Rattle.algebra.specs.WordLists.{Low, low_words, elements, to_words, length_elements, length_words_lem, elements_words, words_elements}
use Rattle.algebra.specs.Tests.{all_same, same_is, is_same}
use Rattle.foldable.specs.Code.{Code, encode, generator, Codeword}
use Rattle.foldable.specs.Columns.{pick, restrict}
use Rattle.foldable.specs.Decode.{decode, Decoder, decodes, length_decode}
use Rattle.foldable.specs.Encode.{length_encode}
use Rattle.foldable.specs.Every.{every}
use Rattle.foldable.specs.Exact.{decode_column}
use Rattle.determinant.specs.Products.{solved}
use Rattle.blocks.specs.Decoders.{inverse_decoder}
use Rattle.cofactor.specs.Rows.{rows, first_columns}
use Rattle.job.specs.SizeLaws.{size_most}
use Rattle.cofactor.specs.RowLaws.{rows_count, rows_wide, first_square}
use Rattle.columns.proofs.Comparing.{words_every}
use Rattle.base_spread.specs.LentRows.{lent_rows, codeword_rows}
use Rattle.base_undo.specs.Steps.{decoded_rows}
use Rattle.base_undo.specs.Laws.{every_front}
use Rattle.base_halves.specs.Comparing.{CompareInput, Compared}
use Rattle.base_same.specs.Steps.{ColumnsInput}
use Rattle.base_decode.specs.Decoding.{DecodeRows, Tried, message, none}

module _ (𝓕 : PrimeField) where
  open 𝓕 use {modulus as P, field as F}
  open F use {ring as K}
  open K use {R as Element, 𝟘}

  -- from the rate 4 on the message is compared by halves
  module _ (d k n : ℕ) (g t t' b w : List ℕ) (𝓘 : ColumnsInput 𝓕 d k n g t t' b w) where
    pub few : k ≤ 4
    few = size_most 𝓘.lent.coding.lent.size

    pub by_halves : 4 * k ≤ n → CompareInput 𝓕 d k n g t t' b w
    by_halves h =
        let 𝓛 = 𝓘.lent in
        record {
          coding = 𝓛.coding;
          depth = 𝓛.depth;
          narrow = h;
          wide = 𝓛.wide;
          size = 𝓛.size;
          block = 𝓘.block;
          work = 𝓛.work;
          message = 𝓛.message;
        }

  module _ (d k n : ℕ) (g m t t' b : List ℕ) (size : ℕ) (𝓓 : DecodeRows 𝓕 d k n g m t t' b size) where
    abbrev C : Code F
    C = lent_rows 𝓕 k n g t t'

    abbrev A : List (List Element)
    A = first_columns 𝓕 k n g

    abbrev M : List (List Element)
    M = first_columns 𝓕 k 4 m

    abbrev base : List Element → List Element
    base v = times K k v M

    all_rows : k * n ≤ length g
    all_rows = omega (arith, 𝓓.coding.lent.long)

    many : length (rows 𝓕 k n g) ≡ k
    many = rows_count 𝓕 k n g 𝓓.coding.lent.few all_rows

    decoder : Decoder F C k base
    unfolding first_columns
    decoder = inverse_decoder F C k many 𝓓.coding.lent.few (rows_wide 𝓕 k n g 𝓓.coding.lent.few all_rows) M 𝓓.inverse

    -- a base block on its first k columns is the block of what it solves to
    back : (v : List Element) → length v ≡ k * 1 → encode F (restrict F C k) 0 (base v) ≡ v
    unfolding first_columns encode generator
    back v e =
        ap (λ c. times K c (times K k v M) A) (mul-one k)
        ∙ (solved K k A M (first_square 𝓕 k n g 𝓓.coding.lent.few all_rows) 𝓓.inverse (times K k v M) v (length_times K k v M 𝓓.inverse.square.wide) (e ∙ mul-one k)).1 refl

    abbrev B : List Element
    B = elements 𝓕 b

    length_B : length B ≡ n * 2 ^ d
    length_B = length_elements 𝓕 b ∙ 𝓓.input.input.sized

    -- the only message that the block allows
    abbrev pub found : List ℕ
    found = decoded_rows 𝓕 d k n g m t t' b

    length_found : length found ≡ k * 2 ^ d
    unfolding decoded_rows
    length_found = length_words_lem 𝓕 _ ∙ length_decode F C k base decoder d 𝓓.coding.legal B length_B ∙ ap (λ c. c * 2 ^ d) many

    low_found : Low P found
    unfolding decoded_rows
    low_found = low_words 𝓕 _

    abbrev E : List Element
    E = encode F C d (decode F C k base d B)

    coded_is : codeword_rows 𝓕 d k n g t t' found ≡ to_words 𝓕 E
    unfolding decoded_rows
    coded_is = ap (λ v. to_words 𝓕 (encode F C d v)) (elements_words 𝓕 _)

    -- the first k columns of its codeword are those of the block
    first_columns_lem : (a : ℕ) → a < k → every 0 n a (2 ^ d) (codeword_rows 𝓕 d k n g t t' found) ≡ every 0 n a (2 ^ d) b
    first_columns_lem a h =
        let few-rows = 𝓓.coding.lent.few in
        let same : pick n k (2 ^ d) E ≡ pick n k (2 ^ d) B = decode_column F C k base decoder back d 𝓓.coding.legal B length_B in
        ap (every 0 n a (2 ^ d)) coded_is
        ∙ sym (words_every 𝓕 n a (2 ^ d) E)
        ∙ ap (to_words 𝓕)
        (sym (every_front 𝟘 n k (2 ^ d) E few-rows (length_encode F C d 𝓓.coding.legal _) a h)
        ∙ ap (every 𝟘 k a (2 ^ d)) same
        ∙ every_front 𝟘 n k (2 ^ d) B few-rows length_B a h)
        ∙ words_every 𝓕 n a (2 ^ d) B
        ∙ ap (every 0 n a (2 ^ d)) (words_elements 𝓕 b 𝓓.input.input.block)

    module _ (w : List ℕ) (lw : length w ≡ size) (e : take (k * 2 ^ d) w ≡ found) where
      pub columns_input : ColumnsInput 𝓕 d k n g t t' b w
      columns_input =
          let 𝓘 = 𝓓.input in
          record {
            lent =
                record {
                  coding = 𝓓.coding;
                  depth = 𝓘.input.depth;
                  narrow = 𝓘.narrow;
                  wide = 𝓘.input.wide;
                  size = 𝓘.input.sized;
                  work = lw ∙ 𝓘.work;
                  message = rw e low_found;
                };
            block = 𝓘.input.block;
            first = λ a h. ap (λ v. every 0 n a (2 ^ d) (codeword_rows 𝓕 d k n g t t' v)) e ∙ first_columns_lem a h;
          }

      length_coded : length (codeword_rows 𝓕 d k n g t t' found) ≡ length b
      length_coded = length_words_lem 𝓕 _ ∙ length_encode F C d 𝓓.coding.legal _ ∙ sym 𝓓.input.input.sized

      codeword_same : Codeword F C d B → codeword_rows 𝓕 d k n g t t' found ≡ b
      codeword_same x =
          coded_is ∙ ap (to_words 𝓕) ((decodes F C k base decoder d 𝓓.coding.legal B length_B).0 x) ∙ words_elements 𝓕 b 𝓓.input.input.block

      pub tried : (r : Bool) (out : List ℕ) → Compared 𝓕 d k n g t t' b w r out → Tried 𝓕 d k n g t t' b r out
      tried r out 𝓒 = decide r (𝓒.answer ∙ ap (λ v. all_same (codeword_rows 𝓕 d k n g t t' v) b) e)
        where
          stands : take (k * 2 ^ d) out ≡ found
          stands = 𝓒.message ∙ e

          decide : (r : Bool) → r ≡ all_same (codeword_rows 𝓕 d k n g t t' found) b → Tried 𝓕 d k n g t t' b r out
          decide true x =
              message refl (ap length stands ∙ length_found) (rw stands low_found)
              (ap (codeword_rows 𝓕 d k n g t t') stands ∙ same_is (codeword_rows 𝓕 d k n g t t' found) b length_coded (sym x))
          decide false x = none refl (λ y. false≢true (x ∙ ap (λ v. all_same v b) (codeword_same y) ∙ is_same b b refl))
