-- The numbers and parts of a level of one column, and the column over its two halves. Assumes nothing.
use mathlib.Core.Path.{◌≡◌, sym, ap, ap₂, ◌∙◌}
use mathlib.Core.List.{List, ◌++◌}
use Prim.Native.Nat.{ℕ, suc, ◌+◌, ◌*◌, ◌-◌, ◌^◌, ◌≤◌, ◌<◌}
use native.Mathlib.Nat.{mul-le-mul, mul_comm, one-mul, two-pow-succ}
use native.Mathlib.Numerals.{add-one}
use native.Mathlib.Omega.{arith}
use lib.ListN.{length, take, drop, get_or, length-append, length-take, length-drop}
use lib.Pow.{pow_pos}
use lib.Seq.{take_at, drop_at}
use borrow.Rule.Slice.PartMut.{put_mid}
use Rattle.algebra.specs.Lists.{row, length_row, row_ext, map_row}
use Rattle.algebra.specs.Parts.{right_part, both_parts}
use Rattle.algebra.specs.Vector.{vectors}
use Rattle.algebra.specs.Words.{PrimeField}
use Rattle.algebra.specs.WordLists.{Low, low_take, low_drop, low_append, low_words, elements, to_words, length_elements, get_or_elements, elements_words, words_elements, elements_take, elements_drop}
use Rattle.foldable.specs.Code.{size}
use Rattle.foldable.specs.Every.{every, place_within}
use Rattle.foldable.specs.Lift.{lift, lift_suc}
use Rattle.job.specs.Limits.{max_depth, max_message, diagonals_size}
use Rattle.job.specs.LimitLaws.{power_most}
use Rattle.parameters.specs.Lent.{diagonal, Coding}
use Rattle.parameters.specs.LentLaws.{coding_below, get_or_diagonal, level_end}
use Rattle.undo.specs.Steps.{longest_base}
use Rattle.columns.specs.Steps.{lent_column, crossed, CrossLent, ColumnHalfIs, ColumnLent}

pub column_half : (d j c r : ℕ) → 0 < d → d ≤ max_depth → j < c → c ≤ longest_base → r ≡ 2 ^ (d - 1) → (1 ≤ r) × (c * (r - 1) ≤ longest_base * max_message) × ColumnHalfIs d j c r (j + c * (r - 1)) (d - 1)
column_half d j c r lo hi column wide e =
    let p : 1 ≤ r = omega (arith, pow_pos (d - 1)) in
    let most : r - 1 ≤ max_message = omega (arith, power_most (d - 1) (omega arith)) in
    (p, mul-le-mul wide most, record { low_is = omega arith; half_is = e; off_is = ap (λ n. j + c * (n - 1)) e })

module _ (𝓕 : PrimeField) where
  infixl 66 ◌⊕◌
  infixl 70 ◌⊙◌
  open 𝓕 use {modulus as P, field as F, words as W}
  open F use {ring as K}
  open W use {el}
  open vectors K use {◌⊕◌, ◌⊙◌}

  -- depth 0: nothing is to be done
  pub lift_none : (d j : ℕ) (g t t' o : List ℕ) → ColumnLent 𝓕 d j g t t' o → d ≡ 0 → o ≡ to_words 𝓕 (lift F (lent_column 𝓕 j g t t') d (elements 𝓕 o))
  unfolding lift
  lift_none d j g t t' o 𝓛 z = sym (rw z (words_elements 𝓕 o 𝓛.block))

  module _ (d j : ℕ) (g t t' o : List ℕ) (𝓛 : ColumnLent 𝓕 d j g t t' o) (half off low : ℕ) (𝓗 : ColumnHalfIs d j (length g) half off low) where
    deep : d ≡ suc low
    deep = 𝓗.low_is ∙ add-one low

    coded : Coding 𝓕 (suc low) g t t'
    coded = rw deep at 𝓛.coding

    two : length o ≡ half + half
    two = 𝓛.size ∙ ap (λ k. 2 ^ k) deep ∙ two-pow-succ low ∙ omega (arith, 𝓗.half_is)

    pub half_within : half ≤ length o
    half_within = omega (arith, two)

    -- a half, as a column of the level below
    lower : (w : List ℕ) → length w ≡ half → Low P w → ColumnLent 𝓕 low j g t t' w
    lower w e l =
        record {
          coding = coding_below 𝓕 low coded;
          depth = omega (arith, 𝓛.depth, deep);
          wide = 𝓛.wide;
          column = 𝓛.column;
          size = e ∙ 𝓗.half_is;
          block = l;
        }

    pub lift_left : ColumnLent 𝓕 low j g t t' (take half o)
    lift_left = lower (take half o) (length-take half o ∙ omega (arith, two)) (low_take half 𝓛.block)

    length_right : length (drop half o) ≡ half
    length_right = length-drop half o ∙ omega (arith, two)

    -- column j of the level's diagonal
    diagonal_is : (s : List ℕ) → elements 𝓕 (every 0 (length g) off half s) ≡ every K.𝟘 (length (elements 𝓕 g)) j (2 ^ low) (elements 𝓕 (diagonal (length g) s low))
    unfolding elements
    diagonal_is s =
        map_row el half (λ i. get_or s (off + i * length g) 0)
        ∙ ap (λ n. row n (λ i. el (get_or s (off + i * length g) 0))) 𝓗.half_is
        ∙ row_ext (2 ^ low) _ _
        (λ i h. let c = length g in
        let D = diagonal c s low in
        let place : diagonals_size c low + (j + i * c) ≡ off + i * c = omega (arith, 𝓗.off_is) in
        sym
        (get_or_elements 𝓕 D (j + i * length (elements 𝓕 g))
        ∙ ap el
        (ap (λ k. get_or D (j + i * k) 0) (length_elements 𝓕 g)
        ∙ get_or_diagonal c low s (j + i * c) (place_within c (2 ^ low) j i 𝓛.column h) ∙ ap (λ k. get_or s k 0) place)))

    diagonal_within : (s : List ℕ) → diagonals_size (length g) (suc low) ≤ length s → off + half * length g < length s + length g
    diagonal_within s h =
        omega (arith, 𝓗.off_is, 𝓛.column, level_end (length g) low, mul_comm half (length g), ap (λ k. length g * k) 𝓗.half_is)

    module _ (l : List ℕ) (ll : length l ≡ length (take half o)) where
      length_l : length l ≡ half
      length_l = ll ∙ length-take half o ∙ omega (arith, two)

      pub right_within : half ≤ length (l ++ drop half o)
      right_within = omega (arith, length-append l (drop half o), length_l)

      abbrev part : List ℕ
      part = take (length (l ++ drop half o) - half) (drop half (l ++ drop half o))

      part_is : part ≡ drop half o
      part_is = right_part l o half length_l half_within

      pub lift_right : ColumnLent 𝓕 low j g t t' part
      lift_right = rw part_is (lower (drop half o) length_right (low_drop half 𝓛.block))

      module _ (r : List ℕ) (lr : length r ≡ length part) where
        length_r : length r ≡ half
        length_r = lr ∙ ap length part_is ∙ length_right

        abbrev whole : List ℕ
        whole = put_mid half (length (l ++ drop half o) - half) (l ++ drop half o) r

        whole_is : whole ≡ l ++ r
        whole_is = both_parts l r o half length_l half_within (lr ∙ ap length part_is)

        pub crossing : l ≡ to_words 𝓕 (lift F (lent_column 𝓕 j g t t') low (elements 𝓕 (take half o))) → r ≡ to_words 𝓕 (lift F (lent_column 𝓕 j g t t') low (elements 𝓕 part))
            → CrossLent 𝓕 half off (length g) t t' whole
        crossing lu rv =
            record {
              wide = 𝓛.wide;
              first = diagonal_within t coded.first;
              second = diagonal_within t' coded.second;
              size = ap length whole_is ∙ length-append l r ∙ ap₂ ◌+◌ length_l length_r;
              low = coded.low;
              low' = coded.low';
              block = rw whole_is (low_append {v = l} {w = r} (rw lu (low_words 𝓕 _)) (rw rv (low_words 𝓕 _)));
            }

        -- the column over its two halves
        pub level : (res : List ℕ) → l ≡ to_words 𝓕 (lift F (lent_column 𝓕 j g t t') low (elements 𝓕 (take half o))) → r ≡ to_words 𝓕 (lift F (lent_column 𝓕 j g t t') low (elements 𝓕 part))
            → res ≡ crossed 𝓕 (every 0 (length g) off half t) (every 0 (length g) off half t') whole → res ≡ to_words 𝓕 (lift F (lent_column 𝓕 j g t t') d (elements 𝓕 o))
        unfolding crossed
        level res lu rv q =
            let C = lent_column 𝓕 j g t t' in
            let n = length_row half (λ i. get_or t (off + i * length g) 0) in
            let size_is : half ≡ size F C low = 𝓗.half_is ∙ sym (one-mul (2 ^ low)) in
            let left_is : elements 𝓕 (take (length (every 0 (length g) off half t)) whole) ≡ lift F C low (take (size F C low) (elements 𝓕 o)) =
            ap₂ (λ k w. elements 𝓕 (take k w)) n whole_is ∙ ap (elements 𝓕) (take_at l r half length_l ∙ lu) ∙ elements_words 𝓕 _
            ∙ ap (lift F C low) (elements_take 𝓕 half o ∙ ap (λ k. take k (elements 𝓕 o)) size_is) in
            let right_is : elements 𝓕 (drop (length (every 0 (length g) off half t)) whole) ≡ lift F C low (drop (size F C low) (elements 𝓕 o)) =
            ap₂ (λ k w. elements 𝓕 (drop k w)) n whole_is ∙ ap (elements 𝓕) (drop_at l r half length_l ∙ rv) ∙ elements_words 𝓕 _
            ∙ ap (lift F C low) (ap (elements 𝓕) part_is ∙ elements_drop 𝓕 half o ∙ ap (λ k. drop k (elements 𝓕 o)) size_is) in
            q
            ∙ (λ i. to_words 𝓕 ((left_is i ⊕ diagonal_is t i ⊙ right_is i) ++ (left_is i ⊕ diagonal_is t' i ⊙ right_is i)))
            ∙ ap (to_words 𝓕) (sym (lift_suc F C low (elements 𝓕 o)))
            ∙ ap (λ k. to_words 𝓕 (lift F C k (elements 𝓕 o))) (sym deep)
