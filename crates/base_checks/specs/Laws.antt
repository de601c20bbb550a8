-- The base word term by term and as a word of the codeword of v; the checks are the verifier's. Assumes nothing.
use Rattle.std.specs.Prelude.{◌≡◌, List, [], ◌∷◌, ℕ, zero, ◌+◌, ◌*◌, ◌<◌, ◌≤◌, length, take, drop}
use Rattle.std.proofs.Common.{sym, ◌∙◌, mul-one, arith, length-take, length-drop, get_or-take, get_or-drop}
use Rattle.std.proofs.Math.Path.{ap, ap₂}
use Rattle.std.proofs.Math.ListN.{get_or}
use Rattle.algebra.specs.Field.{Field}
use Rattle.algebra.specs.Lists.{row, row_ext, row_get_or, get_or_row}
use Rattle.algebra.specs.Sums.{sum, sum_ext}
use Rattle.algebra.specs.Matrix.{times}
use Rattle.algebra.specs.Words.{PrimeField}
use Rattle.algebra.specs.WordLists.{elements, length_elements, get_or_elements}
use Rattle.foldable.specs.Code.{Code, generator, encode}
use Rattle.multilinear.specs.Rounds.{final_sum}
use Rattle.basefold.specs.Layout.{block_of, carried}
use Rattle.basefold.specs.Checks.{base_check, final_check, bases, sums_from, same}
use Rattle.determinant.specs.Adjugate.{times_row}
use Rattle.cofactor.specs.Rows.{rows}
use Rattle.cofactor.specs.RowLaws.{row_within}
use Rattle.base_checks.specs.Steps.{base_word, base_at}

module _ (𝓕 : PrimeField) where
  infixl 70 ◌⊠◌
  open 𝓕 use {field as F, words as W}
  open F use {ring as K}
  open K use {R as Element, ◌*◌ as ◌⊠◌, 𝟘}
  open W use {el}

  module _ (k n : ℕ) (g : List ℕ) (long : k * n ≤ length g) where
    one_row_lem : (b : ℕ) → b < k → elements 𝓕 (take n (drop (b * n) g)) ≡ row n (λ j. el (get_or g (b * n + j) 0))
    one_row_lem b h =
        let whole : List ℕ = take n (drop (b * n) g) in
        let l : List Element = elements 𝓕 whole in
        let e : length l ≡ n = length_elements 𝓕 whole ∙ length-take n (drop (b * n) g) ∙ omega (arith, length-drop (b * n) g, row_within k n b h) in
        sym (row_get_or l 𝟘) ∙ ap (λ m. row m (λ j. get_or l j 𝟘)) e
        ∙ row_ext n _ _ (λ j i. get_or_elements 𝓕 whole j ∙ ap el (get_or-take n (drop (b * n) g) j 0 i ∙ get_or-drop (b * n) g j 0))

    -- in row b and column j stands word b n + j
    rows_are : rows 𝓕 k n g ≡ row k (λ b. row n (λ j. el (get_or g (b * n + j) 0)))
    unfolding rows
    rows_are = row_ext k _ _ one_row_lem

    -- the sum over the words of v, each times its row's word j
    pub base_sum : (v : List ℕ) → length v ≡ k → (j : ℕ) → j < n → base_word 𝓕 k n v g j ≡ sum K k (λ b. el (get_or v b 0) ⊠ el (get_or g (b * n + j) 0))
    unfolding base_word
    base_sum v e j h =
        ap (λ G. get_or (times K n (elements 𝓕 v) G) j 𝟘) rows_are
        ∙ ap (λ l. get_or l j 𝟘) (times_row K n k (elements 𝓕 v) (λ b j. el (get_or g (b * n + j) 0)) (length_elements 𝓕 v ∙ e))
        ∙ get_or_row n _ j 𝟘 h
        ∙ sum_ext K k _ _ (λ b l. ap (λ x. x ⊠ el (get_or g (b * n + j) 0)) (get_or_elements 𝓕 v b))

  -- over any code with these base rows, word j of v's codeword at level 0
  pub encode_base : (C : Code F) (k n : ℕ) (v g : List ℕ) → C.n₀ ≡ n → C.G₀ ≡ rows 𝓕 k n g → (j : ℕ) → get_or (encode F C 0 (elements 𝓕 v)) j 𝟘 ≡ base_word 𝓕 k n v g j
  unfolding encode generator base_word
  encode_base C k n v g en eg j = ap₂ (λ m G. get_or (times K m (elements 𝓕 v) G) j 𝟘) (mul-one C.n₀ ∙ en) eg

  -- where the opening carries v and block 0 is b, the verifier's base checks are these
  pub bases_are : (low : ℕ) (C : Code F) (n : ℕ) (v g b : List ℕ) → C.n₀ ≡ n → C.G₀ ≡ rows 𝓕 (length v) n g
      → (w r o : List Element) → carried F low o (length r) ≡ elements 𝓕 v → block_of C.n₀ low (length r) w o 0 ≡ elements 𝓕 b
      → bases F low C w r o ≡ row n (base_at 𝓕 n v g b)
  bases_are low C n v g b en eg w r o ev eb =
      ap (λ m. row m (λ j. (base_check j, same F (get_or (block_of C.n₀ low (length r) w o 0) j 𝟘) (get_or (encode F C 0 (carried F low o (length r))) j 𝟘)))) en
      ∙ row_ext n _ (base_at 𝓕 n v g b) (λ j h. ap₂ (λ x y. (base_check j, same F x y))
      (ap (λ l. get_or l j 𝟘) eb ∙ get_or_elements 𝓕 b j)
      (ap (λ m. get_or (encode F C 0 m) j 𝟘) ev ∙ encode_base C (length v) n v g en eg j))

-- where the opening carries v, what is left below the sums is the final check of v
module _ (F : Field) where
  open F use {ring as K}
  open K use {R}

  pub last_is : (low : ℕ) (o z r v : List R) (claim : R) → carried F low o (length r) ≡ v
      → sums_from F low o z r zero claim ≡ (final_check, same F (final_sum K low v z r) claim) ∷ []
  unfolding sums_from
  last_is low o z r v claim e = ap (λ m. (final_check, same F (final_sum K low m z r) claim) ∷ []) e
