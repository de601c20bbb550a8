-- The columns of words, and the comparison of what is lifted. Assumes nothing.
use mathlib.Core.Path.{◌≡◌, sym, ap, ap₂, ◌∙◌}
use mathlib.Core.Bool.{Bool}
use mathlib.Core.List.{List}
use Prim.Native.Nat.{ℕ, ◌+◌, ◌*◌, ◌^◌}
use lib.ListN.{length, get_or}
use Rattle.algebra.specs.Lists.{row_ext, map_row}
use Rattle.algebra.specs.Words.{PrimeField}
use Rattle.algebra.specs.WordLists.{elements, to_words, get_or_words}
use Rattle.algebra.specs.Tests.{all_same}
use Rattle.foldable.specs.Every.{every}
use Rattle.foldable.specs.Lift.{lift}
use Rattle.job.specs.Limits.{block_size}
use Rattle.columns.specs.Steps.{lent_column, ColumnLent}

module _ (𝓕 : PrimeField) where
  open 𝓕 use {field as F, words as W}
  open F use {ring as K}
  open K use {R as Element}
  open W use {val as word}

  -- the columns of words are the words of the columns
  pub words_every : (c a b : ℕ) (v : List Element) → to_words 𝓕 (every K.𝟘 c a b v) ≡ every 0 c a b (to_words 𝓕 v)
  unfolding to_words
  words_every c a b v = map_row word b (λ i. get_or v (a + i * c) K.𝟘) ∙ row_ext b _ _ (λ i h. sym (get_or_words 𝓕 v (a + i * c)))

  -- the comparison of what is lifted, at its length
  module _ (d j : ℕ) (g t t' b w : List ℕ) (𝓛 : ColumnLent 𝓕 d j g t t' w) (size : length b ≡ block_size (length g) d) (out : List ℕ) (same : length out ≡ length w) where
    pub comparing : length b ≡ length g * length out
    comparing = size ∙ ap (λ n. length g * n) (sym (same ∙ 𝓛.size))

    pub compared : (r : Bool) → out ≡ to_words 𝓕 (lift F (lent_column 𝓕 j g t t') d (elements 𝓕 w)) → r ≡ all_same out (every 0 (length g) j (length out) b)
        → r ≡ all_same (to_words 𝓕 (lift F (lent_column 𝓕 j g t t') d (elements 𝓕 w))) (every 0 (length g) j (2 ^ d) b)
    compared r e q = q ∙ ap₂ (λ u n. all_same u (every 0 (length g) j n b)) e (same ∙ 𝓛.size)
