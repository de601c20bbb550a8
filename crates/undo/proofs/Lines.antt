-- A level of a column: the words that the loop leaves are those of the lines at 0 and of the slopes. Assumes nothing.
use mathlib.Core.Path.{◌≡◌, refl, sym, ap, ap₂, ◌∙◌}
use mathlib.Core.List.{List}
use Prim.Native.Nat.{ℕ, suc, ◌+◌, ◌*◌, ◌^◌, ◌<◌, ◌≤◌}
use native.Mathlib.Nat.{one-mul, two-pow-succ}
use native.Mathlib.Omega.{arith}
use lib.ListN.{length, take, drop, get_or, length-take}
use lib.Seq.{get_or-take, get_or-drop, ext_get_or}
use Rattle.algebra.specs.Lists.{row, length_row, get_or_row, zip₄}
use Rattle.algebra.specs.Words.{PrimeField}
use Rattle.algebra.specs.WordLists.{elements, length_elements, get_or_elements}
use Rattle.foldable.specs.Code.{Code, Legal, size, slope, line}
use Rattle.foldable.specs.Encode.{block_halves}
use Rattle.foldable.specs.Fold.{level_block}
use Rattle.foldable.specs.Level.{Level, lines, slopes, length_level, get_or_level}
use Rattle.foldable.specs.Line.{line_start}
use Rattle.residue.specs.ResidueLaws.{stands}
use Rattle.undo.specs.Steps.{slope_at, start_at}

module _ (𝓕 : PrimeField) where
  infixl 65 ◌⊟◌
  infixl 70 ◌⊠◌
  open 𝓕 use {field as F, words as W}
  open F use {ring as K, inv}
  open K use {R as Element, ◌*◌ as ◌⊠◌, ◌-◌ as ◌⊟◌}
  open W use {el, val as word}

  module _ (C : Code F) (i : ℕ) (𝓛 : Legal F C (suc i)) (one : C.n₀ ≡ 1) (w : List ℕ) (long : 2 ^ suc i ≤ length w) where
    -- the column of level i + 1 that stands in front, and its halves
    abbrev pub front : List Element
    front = elements 𝓕 (take (2 ^ suc i) w)

    abbrev pub left : List Element
    left = take (size F C i) front

    abbrev pub right : List Element
    right = drop (size F C i) front

    sized : (k : ℕ) → size F C k ≡ 2 ^ k
    sized k = ap (λ n. n * 2 ^ k) one ∙ one-mul (2 ^ k)

    length_front : length front ≡ size F C (suc i)
    length_front = length_elements 𝓕 (take (2 ^ suc i) w) ∙ length-take (2 ^ suc i) w ∙ omega arith ∙ sym (sized (suc i))

    front_at : (k : ℕ) → k < 2 ^ suc i → get_or front k K.𝟘 ≡ el (get_or w k 0)
    front_at k h = get_or_elements 𝓕 (take (2 ^ suc i) w) k ∙ ap el (get_or-take (2 ^ suc i) w k 0 h)

    left_at : (j : ℕ) → j < 2 ^ i → get_or left j K.𝟘 ≡ el (get_or w j 0)
    left_at j h = get_or-take (size F C i) front j K.𝟘 (omega (arith, sized i)) ∙ front_at j (omega (arith, two-pow-succ i))

    right_at : (j : ℕ) → j < 2 ^ i → get_or right j K.𝟘 ≡ el (get_or w (2 ^ i + j) 0)
    right_at j h = get_or-drop (size F C i) front j K.𝟘 ∙ ap (λ n. get_or front (n + j) K.𝟘) (sized i) ∙ front_at (2 ^ i + j) (omega (arith, two-pow-succ i))

    length_left : length left ≡ 2 ^ i
    length_left = (block_halves F C i front length_front).length_left ∙ sized i

    -- words by places are those of a level's list
    words_level : (f : Element → Element → Element → Element → Element) (g : ℕ → Element)
        → ((j : ℕ) → j < 2 ^ i → g j ≡ f (get_or (C.T i) j K.𝟘) (get_or (C.T' i) j K.𝟘) (el (get_or w j 0)) (el (get_or w (2 ^ i + j) 0)))
        → elements 𝓕 (row (2 ^ i) (λ j. word (g j))) ≡ zip₄ f (C.T i) (C.T' i) left right
    words_level f g e =
        ext_get_or K.𝟘 (elements 𝓕 (row (2 ^ i) (λ j. word (g j)))) (zip₄ f (C.T i) (C.T' i) left right) (long_row ∙ sym (length_level F f level ∙ length_left)) (λ j h. at j (rw long_row at h))
      where
        level : Level F (C.T i) (C.T' i) left right
        level = level_block F C i 𝓛 front length_front

        long_row : length (elements 𝓕 (row (2 ^ i) (λ j. word (g j)))) ≡ 2 ^ i
        long_row = length_elements 𝓕 (row (2 ^ i) (λ j. word (g j))) ∙ length_row (2 ^ i) (λ j. word (g j))

        at : (j : ℕ) → j < 2 ^ i → get_or (elements 𝓕 (row (2 ^ i) (λ j. word (g j)))) j K.𝟘 ≡ get_or (zip₄ f (C.T i) (C.T' i) left right) j K.𝟘
        at j h =
            get_or_elements 𝓕 (row (2 ^ i) (λ j. word (g j))) j ∙ stands 𝓕 (g j) (get_or_row (2 ^ i) (λ j. word (g j)) j 0 h) ∙ e j h
            ∙ sym (get_or_level F f level j (omega (arith, length_left)) ∙ ap₂ (f (get_or (C.T i) j K.𝟘) (get_or (C.T' i) j K.𝟘)) (left_at j h) (right_at j h))

    -- with the diagonal in every c-th place of t, and the inverses of the differences from a on
    module _ (a c : ℕ) (t : List ℕ) (first : (j : ℕ) → j < 2 ^ i → get_or (C.T i) j K.𝟘 ≡ el (get_or t (j * c) 0))
        (inverse : (j : ℕ) → j < 2 ^ i → el (get_or w (a + j) 0) ≡ inv (get_or (C.T' i) j K.𝟘 ⊟ get_or (C.T i) j K.𝟘)) where
      slope_at_lem : (j : ℕ) → j < 2 ^ i → el (get_or w (a + j) 0) ⊠ (el (get_or w (2 ^ i + j) 0) ⊟ el (get_or w j 0))
          ≡ slope F (get_or (C.T i) j K.𝟘) (get_or (C.T' i) j K.𝟘) (el (get_or w j 0)) (el (get_or w (2 ^ i + j) 0))
      unfolding slope
      slope_at_lem j h = K.mul_comm _ _ ∙ ap (λ x. (el (get_or w (2 ^ i + j) 0) ⊟ el (get_or w j 0)) ⊠ x) (inverse j h)

      pub slopes_are : elements 𝓕 (row (2 ^ i) (slope_at 𝓕 (2 ^ i) a w)) ≡ slopes F (C.T i) (C.T' i) left right
      slopes_are = words_level (slope F) (λ j. el (get_or w (a + j) 0) ⊠ (el (get_or w (2 ^ i + j) 0) ⊟ el (get_or w j 0))) slope_at_lem

      pub starts_are : elements 𝓕 (row (2 ^ i) (start_at 𝓕 (2 ^ i) a c t w)) ≡ lines F K.𝟘 (C.T i) (C.T' i) left right
      starts_are =
          words_level (line F K.𝟘) (λ j. el (get_or w j 0) ⊟ el (get_or t (j * c) 0) ⊠ el (slope_at 𝓕 (2 ^ i) a w j))
          (λ j h. ap₂ (λ x y. el (get_or w j 0) ⊟ x ⊠ y) (sym (first j h)) (stands 𝓕 _ refl ∙ slope_at_lem j h)
          ∙ sym (line_start F (get_or (C.T i) j K.𝟘) (get_or (C.T' i) j K.𝟘) (el (get_or w j 0)) (el (get_or w (2 ^ i + j) 0))))
