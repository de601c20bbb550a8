-- The blocks of an opening that is lent for checking, and a fold check by its words. Assumes nothing.
use mathlib.Core.Path.{◌≡◌, sym, ap, ◌∙◌}
use mathlib.Core.List.{List}
use Prim.Native.Nat.{ℕ, suc, ◌+◌, ◌*◌, ◌^◌, ◌≤◌, ◌<◌}
use native.Mathlib.Numerals.{add-one}
use native.Mathlib.Omega.{arith}
use lib.ListN.{length, get_or}
use Rattle.algebra.specs.Lists.{differ_at}
use Rattle.algebra.specs.Words.{PrimeField}
use Rattle.algebra.specs.WordLists.{Low, elements, length_elements, get_or_elements}
use Rattle.foldable.specs.Code.{line}
use Rattle.foldable.specs.Encode.{double}
use Rattle.basefold.specs.Layout.{block_of}
use Rattle.basefold.specs.Checks.{same, fold_holds}
use Rattle.job.specs.Limits.{block_size, diagonals_size}
use Rattle.residue.specs.Elements.{elem}
use Rattle.residue.specs.declared.Residue.{Residue}
use Rattle.parameters.specs.Lent.{diagonal}
use Rattle.parameters.specs.LentLaws.{length_diagonal, get_or_diagonal, level_within}
use Rattle.layout.specs.BlockLaws.{block_word_lem, low_block, length_block}
use Rattle.walks.specs.Steps.{FoldAt, line_at}
use Rattle.base_spread.specs.LentRows.{lent_rows}
use Rattle.base_walks.specs.Steps.{RowsInput}

module _ (𝓕 : PrimeField) where
  open 𝓕 use {modulus as P, field as F, words as 𝓦}
  open F use {ring as K}
  open 𝓦 use {el}

  module _ {d low k n : ℕ} {g t t' w r o : List ℕ} (𝓞 : RowsInput 𝓕 d low k n g t t' w r o) where
    abbrev B : ℕ → List ℕ
    B i = block_of n low d w o i

    pub low_at : (i : ℕ) → Low P (block_of n low d w o i)
    low_at = low_block 𝓕 n low d w o 𝓞.block 𝓞.opening

    pub length_at : (i : ℕ) → i ≤ d → length (block_of n low d w o i) ≡ block_size n i
    length_at = length_block 𝓕 n low d w o 𝓞.size 𝓞.opened

    pub deep : length (elements 𝓕 r) ≡ d
    deep = length_elements 𝓕 r ∙ 𝓞.challenges

    -- the definition's block, by its words
    word_at : (i j : ℕ) → get_or (block_of n low (length (elements 𝓕 r)) (elements 𝓕 w) (elements 𝓕 o) i) j K.𝟘 ≡ el (get_or (block_of n low d w o i) j 0)
    word_at i j = ap (λ m. get_or (block_of n low m (elements 𝓕 w) (elements 𝓕 o) i) j K.𝟘) deep ∙ block_word_lem 𝓕 n low d w o i j

    module _ (i u : ℕ) (l : i < d) (h : u < block_size n i) where
      -- the place of level i at u in the diagonals
      abbrev at : ℕ
      at = diagonals_size n i + u

      diagonal_at : (s : List ℕ) → get_or (elements 𝓕 (diagonal n s i)) u K.𝟘 ≡ el (get_or s at 0)
      diagonal_at s = get_or_elements 𝓕 (diagonal n s i) u ∙ ap el (get_or_diagonal n i s u h)

      within : (s : List ℕ) → diagonals_size n d ≤ length s → at < length s
      within s e = omega (arith, level_within n i d l)

      sized : (s : List ℕ) → diagonals_size n d ≤ length s → u < length (elements 𝓕 (diagonal n s i))
      sized s e = rw (length_elements 𝓕 (diagonal n s i), length_diagonal n d i s l e) h

      apart : el (get_or t at 0) ≡ el (get_or t' at 0) → ⊥
      apart e =
          differ_at K.𝟘 (elements 𝓕 (diagonal n t i)) (elements 𝓕 (diagonal n t' i)) (𝓞.coding.legal.apart i l) u (sized t 𝓞.coding.first) (sized t' 𝓞.coding.second)
          (diagonal_at t ∙ e ∙ sym (diagonal_at t'))

      -- the definition's check is that of the words
      fold_is : line_at 𝓕 (el (get_or r i 0)) (el (get_or t at 0)) (el (get_or t' at 0)) u (B (suc i)) (B i)
          ≡ fold_holds F low (lent_rows 𝓕 k n g t t') (elements 𝓕 w) (elements 𝓕 r) (elements 𝓕 o) i u
      unfolding fold_holds
      fold_is =
          let size_is : length (B i) + u ≡ n * 2 ^ i + u = ap (λ m. m + u) (length_at i (omega arith)) in
          sym (λ j. same F
          (line F (get_or_elements 𝓕 r i j) (diagonal_at t j) (diagonal_at t' j) (word_at (suc i) u j)
          ((word_at (suc i) (n * 2 ^ i + u) ∙ ap (λ m. el (get_or (B (suc i)) m 0)) (sym size_is)) j))
          (word_at i u j))

      -- where the diagonals of the level are read
      pub read_within : {b : ℕ} → b ≡ diagonals_size n i → (s : List ℕ) → diagonals_size n d ≤ length s → b + u < length s
      read_within p s e = let x = within s e in omega arith

      pub first_low : {b : ℕ} → b ≡ diagonals_size n i → get_or t (b + u) 0 < P
      first_low p = 𝓞.coding.low.low _ (read_within p t 𝓞.coding.first)

      pub second_low : {b : ℕ} → b ≡ diagonals_size n i → get_or t' (b + u) 0 < P
      second_low p = 𝓞.coding.low'.low _ (read_within p t' 𝓞.coding.second)

      pub challenge_low : get_or r i 0 < P
      challenge_low = let e = 𝓞.challenges in 𝓞.below.low i (omega arith)

      -- by what is read: b is where the level's diagonals begin, up and lo are the blocks
      module _ {b : ℕ} {up lo : List ℕ} (p : b ≡ diagonals_size n i) (x : up ≡ block_of n low d w o (i + 1)) (y : lo ≡ block_of n low d w o i)
          (a s s' : Residue) (ea : a.0 ≡ get_or r i 0) (es : s.0 ≡ get_or t (b + u) 0) (es' : s'.0 ≡ get_or t' (b + u) 0) where
        up_is : up ≡ B (suc i)
        up_is = x ∙ ap B (add-one i)

        pub read_folding : FoldAt 𝓕 a s s' u up lo
        read_folding =
            let lb : length lo ≡ block_size n i = ap length y ∙ length_at i (omega arith) in
            let ub : length up ≡ block_size n (suc i) = ap length up_is ∙ length_at (suc i) l in
            record {
              challenge = rw ea challenge_low;
              first = rw es (first_low p);
              second = rw es' (second_low p);
              apart = λ e. apart (ap (λ m. el (get_or t (m + u) 0)) (sym p) ∙ sym (ap el es) ∙ e ∙ ap el es' ∙ ap (λ m. el (get_or t' (m + u) 0)) p);
              size = omega (arith, double n i);
              place = omega arith;
              upper = rw up_is (low_at (suc i));
              lower = rw y (low_at i);
            }

        pub read_fold : line_at 𝓕 (elem 𝓕 a) (elem 𝓕 s) (elem 𝓕 s') u up lo ≡ fold_holds F low (lent_rows 𝓕 k n g t t') (elements 𝓕 w) (elements 𝓕 r) (elements 𝓕 o) i u
        read_fold =
            (λ j. line_at 𝓕 (el (ea j)) (el ((es ∙ ap (λ m. get_or t (m + u) 0) p) j)) (el ((es' ∙ ap (λ m. get_or t' (m + u) 0) p) j)) u (up_is j) (y j)) ∙ fold_is
