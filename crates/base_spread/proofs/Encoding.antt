-- The base blocks of a message, and then the levels above. Assumes nothing.
use mathlib.Core.Path.{◌≡◌, refl, sym, ap, ap₂, ◌∙◌, subst}
use mathlib.Core.List.{List, []}
use Prim.Native.Nat.{ℕ, ◌*◌, ◌/◌, ◌^◌}
use native.Mathlib.Nat.{mul_comm, mul-div_cancel, one-mul}
use native.Mathlib.Omega.{arith}
use lib.ListN.{length, take, length-take}
use lib.Seq.{take_all}
use Rattle.algebra.specs.Sums.{prod}
use Rattle.algebra.specs.UnitLaws.{cancel_power}
use Rattle.algebra.specs.Vector.{vectors}
use Rattle.algebra.specs.Words.{PrimeField}
use Rattle.algebra.specs.WordLists.{low_twice, low_words, elements, to_words, elements_words, length_elements}
use Rattle.foldable.specs.Code.{encode}
use Rattle.foldable.specs.Lift.{lift, spread}
use Rattle.foldable.specs.Sweep.{lift_multiple}
use Rattle.blocks.specs.Base.{base_blocks}
use Rattle.blocks.specs.Lifted.{lift_base}
use Rattle.parameters.specs.Lent.{lent, Coding}
use Rattle.code.specs.Encoding.{EncodeInput}
use Rattle.passes.specs.Steps.{Scaled, LooseInput}
use Rattle.code.specs.Steps.{LiftInput}
use Rattle.job.specs.Limits.{block_size}
use Rattle.job.specs.SizeLaws.{size_least}
use Rattle.cofactor.specs.RowLaws.{rows_count}
use Rattle.base_spread.specs.LentRows.{lent_rows}
use Rattle.base_spread.specs.LentRowLaws.{first_within, lift_rows, first_coding}
use Rattle.base_spread.specs.Steps.{SpreadLent, blocks_of, blocks_by, EncodeLent}
use Rattle.base_spread.proofs.Spreading.{length_blocks, length_blocks_by, one_blocks}

module _ (𝓕 : PrimeField) (d k n : ℕ) (g t t' m out : List ℕ) (𝓔 : EncodeLent 𝓕 d k n g t t' m out) where
  infixl 70 ◌⊠◌
  infixr 71 ◌⊛◌
  open 𝓕 use {field as F}
  open F use {ring as K}
  open K use {R as Element, 𝟙, ◌*◌ as ◌⊠◌}
  open vectors K use {◌⊛◌}

  count : length m / k ≡ 2 ^ d
  count = ap (λ c. c / k) (𝓔.message ∙ mul_comm k (2 ^ d)) ∙ mul-div_cancel (2 ^ d) (size_least 𝓔.coding.lent.size)

  pub first_length : length (take n g) ≡ n
  first_length = length-take n g ∙ omega (arith, first_within 𝓕 𝓔.coding.lent)

  pub spreading : SpreadLent 𝓕 k n g m out
  spreading =
      record {
        lent = 𝓔.coding.lent;
        low = 𝓔.words;
        whole = 𝓔.message ∙ ap (λ c. k * c) (sym count);
        size = 𝓔.size ∙ ap (λ c. n * c) (sym count);
      }

  pub lifting : (w : List ℕ) → w ≡ blocks_of 𝓕 k n g m → LiftInput 𝓕 d (take n g) t t' w
  unfolding blocks_of
  lifting w e =
      record {
        coding = first_coding 𝓕 𝓔.coding;
        size = ap length e ∙ length_blocks 𝓕 k n g m out spreading ∙ ap₂ ◌*◌ (sym first_length) count;
        block = rw e (low_words 𝓕 _);
      }

  pub encoded : (w r : List ℕ) → w ≡ blocks_of 𝓕 k n g m → r ≡ to_words 𝓕 (lift F (lent 𝓕 (take n g) t t') d (elements 𝓕 w)) → r ≡ to_words 𝓕 (encode F (lent_rows 𝓕 k n g t t') d (elements 𝓕 m))
  unfolding blocks_of base_blocks
  encoded w r e q =
      let C = lent_rows 𝓕 k n g t t' in
      let 𝓖 = 𝓔.coding.lent in
      let M = elements 𝓕 m in
      let rows_are = rows_count 𝓕 k n g 𝓖.few (omega (arith, 𝓖.long)) in
      q
      ∙ ap (to_words 𝓕)
      (sym (lift_rows 𝓕 k n g t t' (first_within 𝓕 𝓖) d (elements 𝓕 w))
      ∙ ap (lift F C d) (ap (elements 𝓕) e ∙ elements_words 𝓕 _ ∙ ap (λ b. base_blocks F C b M) count)
      ∙ lift_base F C d 𝓔.coding.legal M (length_elements 𝓕 m ∙ 𝓔.message ∙ ap (λ c. c * 2 ^ d) (sym rows_are)))

  -- times what the levels divide by
  module _ (a : Element) (w : List ℕ) (e : w ≡ blocks_by 𝓕 a k n g m) where
    pub loosening : LooseInput 𝓕 d (take n g) t t' w
    unfolding blocks_by
    loosening =
        record {
          coding = first_coding 𝓕 𝓔.coding;
          size = ap length e ∙ length_blocks_by 𝓕 k n g m out spreading a ∙ ap₂ ◌*◌ (sym first_length) count;
          block = rw e (low_twice (low_words 𝓕 _));
        }

    pub loose_encoded : (s u : Element) → s ⊠ u ≡ 𝟙 → a ≡ prod K d (λ i. s) → (v r : List ℕ) → Scaled 𝓕 (prod K d (λ i. s)) (lift F (lent 𝓕 (take n g) t t') d (elements 𝓕 w)) v
        → r ≡ to_words 𝓕 (elements 𝓕 v) → r ≡ to_words 𝓕 (encode F (lent_rows 𝓕 k n g t t') d (elements 𝓕 m))
    unfolding blocks_by blocks_of
    loose_encoded s u unit p v r q z =
        let C = lent 𝓕 (take n g) t t' in
        let B = base_blocks F (lent_rows 𝓕 k n g [] []) (length m / k) (elements 𝓕 m) in
        let base : elements 𝓕 w ≡ prod K d (λ i. s) ⊛ B = ap (elements 𝓕) e ∙ elements_words 𝓕 _ ∙ ap (λ x. x ⊛ B) p in
        let above : elements 𝓕 v ≡ lift F C d B = cancel_power K s u unit d (q.stands ∙ ap (lift F C d) base ∙ lift_multiple F C d (prod K d (λ i. s)) B) in
        encoded (to_words 𝓕 B) r refl (z ∙ ap (to_words 𝓕) (above ∙ ap (lift F C d) (sym (elements_words 𝓕 B))))

  -- one word a base message: the row is the whole of g
  module _ (e : k ≡ 1) where
    pub row_is : length g ≡ n
    row_is = 𝓔.coding.lent.long ∙ ap (λ c. c * n) e ∙ one-mul n

    whole : take n g ≡ g
    whole = take_all n g (omega (arith, row_is))

    pub one_lent : EncodeInput 𝓕 d g t t' m (length out)
    one_lent =
        record {
          coding = subst (λ h. Coding 𝓕 d h t t') whole (first_coding 𝓕 𝓔.coding);
          message = 𝓔.message ∙ ap (λ c. c * 2 ^ d) e ∙ one-mul (2 ^ d);
          words = 𝓔.words;
          size = 𝓔.size ∙ ap (λ c. block_size c d) (sym row_is);
        }

    pub one_encoded : (r : List ℕ) → r ≡ to_words 𝓕 (lift F (lent 𝓕 g t t') d (spread F (elements 𝓕 g) (elements 𝓕 m))) → r ≡ to_words 𝓕 (encode F (lent_rows 𝓕 k n g t t') d (elements 𝓕 m))
    one_encoded r q =
        let v = spread F (elements 𝓕 g) (elements 𝓕 m) in
        encoded (to_words 𝓕 v) r (one_blocks 𝓕 k n g m out spreading e)
        (q ∙ ap₂ (λ h w. to_words 𝓕 (lift F (lent 𝓕 h t t') d w)) (sym whole) (sym (elements_words 𝓕 v)))
