-- What decoding with k base rows says of codewords. Assumes nothing.
use Rattle.std.specs.Prelude.{false, ◌↔◌, ◌≡◌, List, ℕ, ◌*◌, ◌^◌, length}
use Rattle.std.proofs.Math.Path.{sym, ap}
use Rattle.std.proofs.Common.{◌∙◌, arith}
use Rattle.algebra.specs.Matrix.{times}
use Rattle.algebra.specs.Words.{PrimeField}
use Rattle.algebra.specs.WordLists.{Low, low_words, elements, to_words, length_elements, length_words_lem, elements_words, words_elements}
use Rattle.foldable.specs.Code.{Code}
use Rattle.foldable.specs.Decode.{decode, Decoder, decode_encode, length_decode}
use Rattle.job.specs.Limits.{block_size}
use Rattle.cofactor.specs.Rows.{first_columns}
use Rattle.cofactor.specs.RowLaws.{rows_count}
use Rattle.base_matrix.specs.declared.Inverted.{Inverted}
use Rattle.base_matrix.specs.Inverting.{Inverts}
use Rattle.base_matrix.specs.Laws.{base_decoder}
use Rattle.base_spread.specs.LentRows.{lent_rows, codeword_rows, RowCoding}
use Rattle.base_undo.specs.Steps.{decoded_rows}

-- a legal code of k base rows, with the inverse of their first columns
module _ (𝓕 : PrimeField) (d k n : ℕ) (g t t' : List ℕ) (𝓒 : RowCoding 𝓕 d k n g t t') (r : Inverted) (𝓘 : Inverts 𝓕 k n g r) (unit : r.singular ≡ false) where
  open 𝓕 use {modulus as P, field as F}
  open F use {ring as K}
  open K use {R as Element}

  abbrev C : Code F
  C = lent_rows 𝓕 k n g t t'

  abbrev base : List Element → List Element
  base v = times K k v (first_columns 𝓕 k 4 r.m)

  decoder : Decoder F C k base
  decoder = base_decoder 𝓕 k n g 𝓒.lent C.T C.T' 𝓘 unit

  dimension : length C.G₀ * 2 ^ d ≡ k * 2 ^ d
  dimension = ap (λ c. c * 2 ^ d) (rows_count 𝓕 k n g 𝓒.lent.few (omega (arith, 𝓒.lent.long)))

  pub length_decoded : (b : List ℕ) → length b ≡ block_size n d → length (decoded_rows 𝓕 d k n g r.m t t' b) ≡ k * 2 ^ d
  unfolding decoded_rows
  length_decoded b e = length_words_lem 𝓕 _ ∙ length_decode F C k base decoder d 𝓒.legal (elements 𝓕 b) (length_elements 𝓕 b ∙ e) ∙ dimension

  pub low_decoded : (b : List ℕ) → Low P (decoded_rows 𝓕 d k n g r.m t t' b)
  unfolding decoded_rows
  low_decoded b = low_words 𝓕 _

  -- a message whose codeword the block is, is the one that is decoded
  pub only_message : (b m : List ℕ) → length m ≡ k * 2 ^ d → Low P m → codeword_rows 𝓕 d k n g t t' m ≡ b → decoded_rows 𝓕 d k n g r.m t t' b ≡ m
  unfolding decoded_rows
  only_message b m e l x =
      ap (λ v. to_words 𝓕 (decode F C k base d (elements 𝓕 v))) (sym x)
      ∙ ap (λ v. to_words 𝓕 (decode F C k base d v)) (elements_words 𝓕 _)
      ∙ ap (to_words 𝓕) (decode_encode F C k base decoder d 𝓒.legal (elements 𝓕 m) (length_elements 𝓕 m ∙ e ∙ sym dimension))
      ∙ words_elements 𝓕 m l

  -- some message has this codeword
  pub record HasMessage (b : List ℕ) : Type 0 where
    pub message : List ℕ
    pub sized : length message ≡ k * 2 ^ d
    pub low : Low P message
    pub encodes : codeword_rows 𝓕 d k n g t t' message ≡ b

  -- a block is a codeword exactly where it is that of what it decodes to
  pub codeword_exactly : (b : List ℕ) → length b ≡ block_size n d → HasMessage b ↔ (codeword_rows 𝓕 d k n g t t' (decoded_rows 𝓕 d k n g r.m t t' b) ≡ b)
  codeword_exactly b e = (
    λ h. ap (codeword_rows 𝓕 d k n g t t') (only_message b h.message h.sized h.low h.encodes) ∙ h.encodes,
    λ x. record { message = decoded_rows 𝓕 d k n g r.m t t' b; sized = length_decoded b e; low = low_decoded b; encodes = x },
  )
