-- Multiples of rows added, word by word. Assumes nothing.
use mathlib.Core.Path.{◌≡◌, sym, ap, ap₂, ◌∙◌}
use mathlib.Core.List.{List}
use Prim.Native.Nat.{ℕ, ◌<◌}
use native.Mathlib.Omega.{arith}
use lib.ListN.{length, get_or, length-map}
use Rattle.algebra.specs.Vector.{vectors, length_mix, get_or_mix, get_or_multiple}
use Rattle.algebra.specs.Words.{PrimeField}
use Rattle.algebra.specs.WordLists.{elements, to_words, length_elements, length_words_lem, get_or_elements, get_or_words}
use Rattle.residue.specs.Elements.{product, sum_product}
use Rattle.residue.specs.ResidueLaws.{stands}
use Rattle.row_sums.specs.Sums.{added_scaled, sum_of_two, two_scaled, TwoLent}

module _ (𝓕 : PrimeField) (a : ℕ) (g w : List ℕ) (size : length w ≡ length g) where
  infixl 65 ◌⊞◌
  infixl 70 ◌⊠◌
  open 𝓕 use {field as F, words as W}
  open F use {ring as K}
  open K use {◌+◌ as ◌⊞◌, ◌*◌ as ◌⊠◌}
  open W use {el, val as word}

  pub length_added : length (added_scaled 𝓕 a g w) ≡ length w
  unfolding added_scaled
  length_added = length_words_lem 𝓕 _ ∙ length_mix K (length w) (elements 𝓕 w) (el a) (elements 𝓕 g) (length_elements 𝓕 w) (omega (arith, length_elements 𝓕 g))

  pub added_at : (i : ℕ) → i < length g → get_or (added_scaled 𝓕 a g w) i 0 ≡ sum_product 𝓕 (get_or w i 0) a (get_or g i 0)
  unfolding added_scaled
  added_at i h =
      get_or_words 𝓕 _ i
      ∙ ap word
      (get_or_mix K (el a) (elements 𝓕 w) (elements 𝓕 g) i (omega (arith, length_elements 𝓕 w)) (omega (arith, length_elements 𝓕 g))
      ∙ ap₂ (λ x y. x ⊞ el a ⊠ y) (get_or_elements 𝓕 w i) (get_or_elements 𝓕 g i))

module _ (𝓕 : PrimeField) where
  infixl 65 ◌⊞◌
  infixl 70 ◌⊠◌
  infixr 71 ◌⊛◌
  open 𝓕 use {field as F, words as W}
  open F use {ring as K}
  open K use {◌+◌ as ◌⊞◌, ◌*◌ as ◌⊠◌}
  open W use {el, val as word}
  open vectors K use {◌⊛◌}

  abbrev scaled : ℕ → List ℕ → List ℕ
  scaled a g = to_words 𝓕 (el a ⊛ elements 𝓕 g)

  length_scaled : (a : ℕ) (g : List ℕ) → length (scaled a g) ≡ length g
  length_scaled a g = length_words_lem 𝓕 _ ∙ length-map (elements 𝓕 g) _ ∙ length_elements 𝓕 g

  scaled_at : (a : ℕ) (g : List ℕ) (i : ℕ) → get_or (scaled a g) i 0 ≡ product 𝓕 a (get_or g i 0)
  scaled_at a g i = get_or_words 𝓕 _ i ∙ ap word (get_or_multiple K (el a) (elements 𝓕 g) i ∙ ap (λ x. el a ⊠ x) (get_or_elements 𝓕 g i))

  module _ {a b : ℕ} {g h w : List ℕ} (𝓣 : TwoLent 𝓕 a b g h w) where
    first_size : length (scaled a g) ≡ length h
    first_size = length_scaled a g ∙ 𝓣.size ∙ sym 𝓣.size'

    pub length_two : length (two_scaled 𝓕 a b g h) ≡ length w
    length_two = length_added 𝓕 b h (scaled a g) first_size ∙ length_scaled a g ∙ 𝓣.size

    pub two_at : (i : ℕ) → i < length w → get_or (two_scaled 𝓕 a b g h) i 0 ≡ sum_of_two 𝓕 a (get_or g i 0) b (get_or h i 0)
    two_at i l =
        added_at 𝓕 b h (scaled a g) first_size i (omega (arith, 𝓣.size'))
        ∙ ap (λ x. word (x ⊞ el b ⊠ el (get_or h i 0))) (stands 𝓕 _ (scaled_at a g i))

  -- two rows more
  module _ {c d : ℕ} {u v w : List ℕ} (𝓣 : TwoLent 𝓕 c d u v w) where
    once_more : length w ≡ length u
    once_more = sym 𝓣.size

    third_size : length (added_scaled 𝓕 c u w) ≡ length v
    third_size = length_added 𝓕 c u w once_more ∙ sym 𝓣.size'

    pub length_more : length (added_scaled 𝓕 d v (added_scaled 𝓕 c u w)) ≡ length w
    length_more = length_added 𝓕 d v (added_scaled 𝓕 c u w) third_size ∙ length_added 𝓕 c u w once_more

    pub more_at : (i : ℕ) → i < length w → get_or (added_scaled 𝓕 d v (added_scaled 𝓕 c u w)) i 0 ≡ sum_product 𝓕 (sum_product 𝓕 (get_or w i 0) c (get_or u i 0)) d (get_or v i 0)
    more_at i l =
        added_at 𝓕 d v (added_scaled 𝓕 c u w) third_size i (omega (arith, 𝓣.size'))
        ∙ ap (λ x. sum_product 𝓕 x d (get_or v i 0)) (added_at 𝓕 c u w once_more i (omega (arith, 𝓣.size)))
