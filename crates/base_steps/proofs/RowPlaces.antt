-- Where a block begins, and what stands in an opening once a block or v is written. Assumes nothing.
use mathlib.Core.Path.{◌≡◌, sym, ap, ap₂, ◌∙◌}
use mathlib.Core.List.{List}
use Prim.Native.Nat.{ℕ, ◌+◌, ◌*◌, ◌-◌, ◌^◌, ◌≤◌}
use native.Mathlib.Nat.{mul-le-mul}
use native.Mathlib.Numerals.{add-one}
use native.Mathlib.Omega.{arith}
use lib.ListN.{length, take, drop, length-take}
use lib.Pow.{pow-add}
use borrow.Rule.Slice.PartMut.{put_mid}
use Rattle.algebra.specs.Lists.{put}
use Rattle.algebra.specs.Words.{PrimeField}
use Rattle.algebra.specs.WordLists.{elements, length_words_lem}
use Rattle.basefold.specs.Descent.{legal_at}
use Rattle.basefold.specs.Layout.{final_at, block_at}
use Rattle.foldable.specs.Encode.{length_encode}
use Rattle.job.specs.Limits.{max_depth, max_message}
use Rattle.job.specs.LimitLaws.{power_most}
use Rattle.layout.specs.LayoutLaws.{block_within}
use Rattle.parameters.specs.LentLaws.{diagonals_mono}
use Rattle.steps.proofs.Places.{part_length, put_part}
use Rattle.base_spread.specs.LentRows.{lent_rows, codeword_rows, RowCoding}
use Rattle.base_spread.specs.Steps.{EncodeLent}
use Rattle.base_steps.specs.RowSteps.{max_base, GiveBlockInput}

-- where a block begins, as it is computed
pub start_is : (d low n i : ℕ) {f k a b : ℕ} → f ≡ final_at d → k ≡ 2 ^ low → a ≡ 2 ^ d → b ≡ 2 ^ (i + 1) → f + k + n * (a - b) ≡ block_at n low d i
start_is d low n i e l p q = ap₂ (λ f m. f + m) (ap₂ (λ f k. f + k) e l) (ap (λ m. n * m) (ap₂ (λ a b. a - b) p (q ∙ ap (λ m. 2 ^ m) (add-one i))))

-- a base block times what is at most 2^d
pub blocks_most : (d n m : ℕ) {a : ℕ} → d ≤ max_depth → n ≤ max_base → a ≡ 2 ^ d → m ≤ a → n * m ≤ max_base * max_message
blocks_most d n m h k p l = let few : m ≤ max_message = omega (arith, p, power_most d h) in mul-le-mul k few

module _ (𝓕 : PrimeField) where
  open 𝓕 use {field as F}

  -- what is legal at depth d is so below
  coding_at : (d i k n : ℕ) {g t t' : List ℕ} → i ≤ d → RowCoding 𝓕 d k n g t t' → RowCoding 𝓕 i k n g t t'
  coding_at d i k n {g} {t} {t'} h 𝓒 =
      let less = diagonals_mono n i d h in
      let a = 𝓒.first in
      let b = 𝓒.second in
      record { lent = 𝓒.lent; first = omega arith; second = omega arith; low = 𝓒.low; low' = 𝓒.low'; legal = legal_at F (lent_rows 𝓕 k n g t t') d i h 𝓒.legal }

  -- the block of level i, of b words at place a, whose message has m words
  module _ (d low i k n : ℕ) (g t t' o s : List ℕ) (𝓑 : GiveBlockInput 𝓕 d low i k n g t t' (length o) s) (m a b : ℕ) (p : m ≡ 2 ^ (low + i)) (q : a ≡ block_at n low d i) (e : b ≡ 2 ^ i) where
    pub end_within : a + n * b ≤ length o
    end_within = omega (arith, q, 𝓑.size, block_within n low d i 𝓑.level, ap (λ x. n * x) e)

    pub encode_lent : EncodeLent 𝓕 i k n g t t' (take m s) (take (a + n * b - a) (drop a o))
    encode_lent =
        record {
          coding = coding_at d i k n (let l = 𝓑.level in omega arith) 𝓑.coding;
          message = length-take m s ∙ omega (arith, p, 𝓑.room) ∙ p ∙ pow-add 2 low i ∙ ap (λ x. x * 2 ^ i) 𝓑.rows;
          words = rw p 𝓑.left_low;
          size = part_length o a (n * b) end_within ∙ ap (λ x. n * x) e;
        }

    pub block_given : (xs : List ℕ) → xs ≡ codeword_rows 𝓕 i k n g t t' (take m s)
        → put_mid a (a + n * b - a) o xs ≡ put (block_at n low d i) (codeword_rows 𝓕 i k n g t t' (take (2 ^ (low + i)) s)) o
    block_given xs f =
        let M = take (2 ^ (low + i)) s in
        let l : length (codeword_rows 𝓕 i k n g t t' M) ≡ n * b =
        length_words_lem 𝓕 _ ∙ length_encode F (lent_rows 𝓕 k n g t t') i encode_lent.coding.legal (elements 𝓕 M) ∙ ap (λ x. n * x) (sym e) in
        put_part a (n * b) o xs (codeword_rows 𝓕 i k n g t t' M) (f ∙ ap (λ x. codeword_rows 𝓕 i k n g t t' (take x s)) p) l
        ∙ ap (λ x. put x (codeword_rows 𝓕 i k n g t t' M) o) q

-- v, k words at place a
pub final_given : (d k a : ℕ) (o s xs : List ℕ) → k ≤ length s → a ≡ final_at d → xs ≡ take k s → put_mid a (a + k - a) o xs ≡ put (final_at d) (take k s) o
final_given d k a o s xs h q f = put_part a k o xs (take k s) f (length-take k s ∙ omega arith) ∙ ap (λ x. put x (take k s) o) q
