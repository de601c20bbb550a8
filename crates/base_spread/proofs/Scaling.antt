-- A base message whose words take a factor. Assumes nothing.
use mathlib.Core.Path.{◌≡◌, sym, ap, ap₂, ◌∙◌, subst}
use mathlib.Core.List.{List, ◌++◌}
use Prim.Native.Nat.{ℕ, ◌≤◌}
use native.Mathlib.Omega.{arith}
use lib.ListN.{length, take, length-append, length-map}
use lib.Seq.{take_at}
use Rattle.algebra.specs.Matrix.{times, times_multiple}
use Rattle.algebra.specs.Words.{PrimeField}
use Rattle.algebra.specs.WordLists.{low_words, elements, to_words, elements_words, length_elements, length_words_lem}
use Rattle.code.specs.Steps.{times as times_row}
use Rattle.cofactor.specs.Rows.{rows, Lent}
use Rattle.job.specs.SizeLaws.{size_most}
use Rattle.base_block.specs.Blocks.{BlockLent, block_of}
use Rattle.base_spread.specs.Steps.{block_by}

module _ (𝓕 : PrimeField) (n : ℕ) (g m out : List ℕ) (𝓑 : BlockLent 𝓕 n g m out) where
  open 𝓕 use {field as F, words as W}
  open F use {ring as K}
  open W use {el}

  pub few : length m ≤ 4
  few = size_most 𝓑.lent.size

  module _ (a : ℕ) (r : List ℕ) (e : r ≡ to_words 𝓕 (times_row 𝓕 (el a) (elements 𝓕 m))) where
    scaled_length : length r ≡ length m
    scaled_length = ap length e ∙ length_words_lem 𝓕 _ ∙ length-map (elements 𝓕 m) _ ∙ length_elements 𝓕 m

    -- in the first words of a longer list
    module _ (rest : List ℕ) where
      front : take (length m) (r ++ rest) ≡ r
      front = take_at r rest (length m) scaled_length

      pub front_length : length (take (length m) (r ++ rest)) ≡ length m
      front_length = ap length front ∙ scaled_length

      pub prefix_room : length m ≤ length (r ++ rest)
      prefix_room = omega (arith, length-append r rest, scaled_length)

      pub scaled_lent : BlockLent 𝓕 n g (take (length m) (r ++ rest)) out
      scaled_lent =
          record {
            lent = subst (λ k. Lent 𝓕 k n g) (sym front_length) 𝓑.lent;
            low = rw (front ∙ e) (low_words 𝓕 _);
            size = 𝓑.size;
          }

      pub scaled_is : (w : List ℕ) → w ≡ block_of 𝓕 n g (take (length m) (r ++ rest)) → w ≡ block_by 𝓕 (el a) n g m
      unfolding block_of block_by
      scaled_is w q =
          q
          ∙ ap₂ (λ v k. to_words 𝓕 (times K n v (rows 𝓕 k n g))) (ap (elements 𝓕) (front ∙ e) ∙ elements_words 𝓕 _) front_length
          ∙ ap (to_words 𝓕) (times_multiple K n (el a) (elements 𝓕 m) (rows 𝓕 (length m) n g))
