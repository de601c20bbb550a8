-- The block of level i + 1, with the block of level i behind it, as one part of the opening. Assumes nothing.
use mathlib.Core.Path.{◌≡◌, refl, sym, ap, ap₂, ◌∙◌}
use mathlib.Core.List.{List, ◌++◌, append_assoc}
use Prim.Native.Nat.{ℕ, suc, ◌+◌, ◌*◌, ◌-◌, ◌^◌, ◌<◌, ◌≤◌}
use native.Mathlib.Nat.{mul-one}
use native.Mathlib.Numerals.{add-one}
use native.Mathlib.Omega.{arith}
use lib.Dec.{lit<}
use lib.ListN.{length, take, drop, get_or, length-take, length-drop}
use lib.Seq.{drop-drop, take-take, take-add}
use borrow.Rule.Slice.PartMut.{put_mid}
use Rattle.algebra.specs.Lists.{put, differ_at}
use Rattle.algebra.specs.Words.{PrimeField}
use Rattle.algebra.specs.WordLists.{low_take, low_drop, elements, get_or_elements, length_elements}
use Rattle.basefold.specs.Layout.{block_at}
use Rattle.foldable.specs.Encode.{double}
use Rattle.job.specs.Limits.{block_size, diagonals_size}
use Rattle.layout.specs.LayoutLaws.{block_end, block_within}
use Rattle.parameters.specs.Lent.{diagonal}
use Rattle.parameters.specs.LentLaws.{level_within, length_diagonal}
use Rattle.lines.specs.Behind.{FoldBehindLent, folded_behind}
use Rattle.lines.specs.Folds.{fold_words}
use Rattle.lines.proofs.Straight.{length_fold_words}
use Rattle.base_descend.proofs.Offsets.{off_at, off_is}
use Rattle.base_descend.specs.RowDescending.{block_above, folded_above, FoldBlockInput}

module _ (𝓕 : PrimeField) where
  open 𝓕 use {field as F, words as W}
  open F use {ring as K}
  open W use {el}

  module _ (d low i : ℕ) (g t t' r o : List ℕ) (𝓘 : FoldBlockInput 𝓕 d low i g t t' r o) where
    abbrev c : ℕ
    c = length g

    below : i < d
    below = omega (arith, 𝓘.level)

    -- n words a diagonal, from off on, as they are computed from m = 2^i
    module _ (m : ℕ) (e : m ≡ 2 ^ i) where
      abbrev n : ℕ
      n = length g * m

      abbrev off : ℕ
      off = off_at (length g) m

      p : n ≡ block_size (length g) i
      p = ap (λ x. length g * x) e

      q : off ≡ diagonals_size (length g) i
      q = off_is (length g) i m e

      pub stop_within : off + n ≤ length t
      stop_within = omega (arith, p, q, level_within c i d below, 𝓘.coding.first)

      pub stop_within' : off + n ≤ length t'
      stop_within' = omega (arith, p, q, level_within c i d below, 𝓘.coding.second)

      twice : block_size (length g) (suc i) ≡ n + n
      twice = double c i ∙ ap (λ k. k + k) (sym p)

      level_is : (s : List ℕ) → take (off + n - off) (drop off s) ≡ diagonal (length g) s i
      unfolding diagonal
      level_is s = let f : off + n - off ≡ n = omega arith in ap₂ (λ j k. take j (drop k s)) (f ∙ p) q

      abbrev first : List ℕ
      first = take (off + n - off) (drop off t)

      abbrev second : List ℕ
      second = take (off + n - off) (drop off t')

      length_first : length first ≡ n
      length_first = ap length (level_is t) ∙ length_diagonal c d i t below 𝓘.coding.first ∙ sym p

      length_second : length second ≡ n
      length_second = ap length (level_is t') ∙ length_diagonal c d i t' below 𝓘.coding.second ∙ sym p

      differ : (k : ℕ) → k < n → get_or first k 0 ≡ get_or second k 0 → ⊥
      differ k h f =
          let u = length_diagonal c d i t below 𝓘.coding.first in
          let v = length_diagonal c d i t' below 𝓘.coding.second in
          differ_at K.𝟘 (elements 𝓕 (diagonal c t i)) (elements 𝓕 (diagonal c t' i)) (𝓘.coding.legal.apart i below) k
          (omega (arith, length_elements 𝓕 (diagonal c t i), u, p)) (omega (arith, length_elements 𝓕 (diagonal c t' i), v, p))
          (get_or_elements 𝓕 (diagonal c t i) k ∙ ap el (ap (λ l. get_or l k 0) (sym (level_is t)) ∙ f ∙ ap (λ l. get_or l k 0) (level_is t')) ∙ sym (get_or_elements 𝓕 (diagonal c t' i) k))

      -- the block of level i + 1 begins at a
      module _ (a : ℕ) (h : a ≡ block_at (length g) low d (i + 1)) where
        start : a ≡ block_at (length g) low d (suc i)
        start = h ∙ ap (block_at c low d) (add-one i)

        -- where the block of level i begins
        next : a + (n + n) ≡ block_at (length g) low d i
        next = omega (arith, start, twice, block_end c low d (suc i) 𝓘.level)

        pub end_within : a + 3 * n ≤ length o
        end_within = omega (arith, next, p, 𝓘.size, block_within c low d i below)

        -- both blocks
        abbrev part : List ℕ
        part = take (a + 3 * n - a) (drop a o)

        block_is : take (length first + length first) part ≡ block_above d low i (length g) o
        block_is =
            let two : length first + length first ≡ block_size c (suc i) = ap (λ k. k + k) length_first ∙ sym twice in
            take-take (length first + length first) (a + 3 * n - a) (drop a o) (omega (arith, length_first)) ∙ ap₂ (λ j k. take j (drop k o)) two start

        pub behind_lent : FoldBehindLent 𝓕 first second part
        behind_lent =
            record {
              diagonals = record {
                some = lit< tt;
                first = omega arith;
                second = omega (arith, length_first, length_second);
                low = low_take (off + n - off) (low_drop off 𝓘.coding.low);
                low' = low_take (off + n - off) (low_drop off 𝓘.coding.low');
                differ = λ k h f. differ k (omega (arith, length_first)) (rw (mul-one k) at f);
              };
              second = length_second ∙ sym length_first;
              whole = length-take (a + 3 * n - a) (drop a o) ∙ omega (arith, length-drop a o, length_first, end_within);
              block = rw block_is 𝓘.block;
            }

        folded_is : fold_words 𝓕 (length first) first second (take (length first + length first) part) (get_or r i 0) ≡ folded_above 𝓕 d low i (length g) t t' r o
        folded_is = λ k. fold_words 𝓕 ((length_first ∙ p) k) (level_is t k) (level_is t' k) (block_is k) (get_or r i 0)

        pub block_folded : (x : ℕ) (xs : List ℕ) → x ≡ get_or r i 0 → xs ≡ folded_behind 𝓕 first second x part
            → put_mid a (a + 3 * n - a) o xs ≡ put (block_at (length g) low d i) (folded_above 𝓕 d low i (length g) t t' r o) o
        block_folded x xs u f =
            let B = take (length first + length first) part in
            let W = folded_above 𝓕 d low i c t t' r o in
            let whole : xs ≡ B ++ W = f ∙ ap (λ v. B ++ v) (ap (fold_words 𝓕 (length first) first second B) u ∙ folded_is) in
            let long : length W ≡ n = ap length (sym folded_is) ∙ length_folded in
            let two : length first + length first ≡ n + n = ap (λ k. k + k) length_first in
            let rest : drop (a + 3 * n - a) (drop a o) ≡ drop (block_at c low d i + length W) o =
            let z : a + (a + 3 * n - a) ≡ block_at c low d i + length W = omega (arith, next) in drop-drop (a + 3 * n - a) a o ∙ ap (λ k. drop k o) z in
            let front : take a o ++ B ≡ take (block_at c low d i) o =
            ap (λ v. take a o ++ v) (take-take (length first + length first) (a + 3 * n - a) (drop a o) (omega (arith, length_first)) ∙ ap (λ k. take k (drop a o)) two)
            ∙ sym (take-add a (n + n) o) ∙ ap (λ k. take k o) next in
            ap₂ (λ v l. take a o ++ (v ++ l)) whole rest
            ∙ ap (λ v. take a o ++ v) (append_assoc B W _)
            ∙ sym (append_assoc (take a o) B _)
            ∙ ap (λ v. v ++ (W ++ drop (block_at c low d i + length W) o)) front
          where
            length_folded : length (fold_words 𝓕 (length first) first second (take (length first + length first) part) (get_or r i 0)) ≡ n
            length_folded = length_fold_words 𝓕 behind_lent.diagonals refl behind_lent.second (take (length first + length first) part) (length-take (length first + length first) part ∙ omega (arith, behind_lent.whole)) (get_or r i 0) ∙ length_first
