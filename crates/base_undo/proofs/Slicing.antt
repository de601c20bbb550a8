-- Diagonals and a block from one column on. Assumes nothing.
use mathlib.Core.Path.{◌≡◌, sym, ap, ◌∙◌}
use mathlib.Core.List.{List, [], ◌∷◌}
use Prim.Native.Nat.{ℕ, zero, suc, ◌+◌, ◌*◌, ◌-◌, ◌^◌, ◌<◌, ◌≤◌, min}
use native.Mathlib.Nat.{zero-add, mul_comm, mul-one, mul-le-mul_left}
use native.Mathlib.Omega.{arith}
use lib.ListN.{length, take, drop, get_or, length-drop}
use lib.Pow.{pow_pos}
use lib.Seq.{get_or-drop}
use Rattle.algebra.specs.Lists.{row_ext}
use Rattle.algebra.specs.Parts.{tail_part}
use Rattle.algebra.specs.Words.{PrimeField}
use Rattle.algebra.specs.WordLists.{low_drop, elements, to_words}
use Rattle.foldable.specs.Decode.{undo}
use Rattle.foldable.specs.Every.{every}
use Rattle.inversion.specs.Inversion.{gap_inverses}
use Rattle.inversion.specs.Strides.{stride_within}
use Rattle.base_undo.specs.Steps.{column_diagonal, column_of, undone_words, ColumnInput, BlockInput}

-- all that is there
drop_least : {A : Type 0} (b : ℕ) (t : List A) → drop (min b (length t)) t ≡ drop b t
drop_least zero t = let e : min 0 (length t) ≡ 0 = omega arith in ap (λ k. drop k t) e
drop_least (suc b) [] = let e : min (suc b) 0 ≡ 0 = omega arith in ap (λ k. drop k []) e
drop_least (suc b) (x ∷ t) = let e : min (suc b) (suc (length t)) ≡ suc (min b (length t)) = omega arith in ap (λ k. drop k (x ∷ t)) e ∙ drop_least b t

-- the first of what begins at b is column b
diagonal_from : (n b : ℕ) (t : List ℕ) (i : ℕ) → column_diagonal n 0 (drop b t) i ≡ column_diagonal n b t i
diagonal_from n b t i =
    row_ext (2 ^ i) _ _ (λ j h. get_or-drop b t (0 + (2 ^ i - 1 + j) * n) 0 ∙ ap (λ p. get_or t (b + p) 0) (zero-add ((2 ^ i - 1 + j) * n)))

every_from : (n b q : ℕ) (w : List ℕ) → every 0 n 0 q (drop b w) ≡ every 0 n b q w
every_from n b q w = row_ext q _ _ (λ j h. get_or-drop b w (0 + j * n) 0 ∙ ap (λ p. get_or w (b + p) 0) (zero-add (j * n)))

module _ (𝓕 : PrimeField) where
  open 𝓕 use {field as F}

  code_from : (n b : ℕ) (t t' : List ℕ) → column_of 𝓕 n 0 (drop b t) (drop b t') ≡ column_of 𝓕 n b t t'
  code_from n b t t' = λ k. record { n₀ = 1; G₀ = []; T = λ i. elements 𝓕 (diagonal_from n b t i k); T' = λ i. elements 𝓕 (diagonal_from n b t' i k) }

  undone_from : (d n b : ℕ) (t t' w : List ℕ) → undone_words 𝓕 d n 0 (drop b t) (drop b t') (drop b w) ≡ undone_words 𝓕 d n b t t' w
  unfolding undone_words
  undone_from d n b t t' w = λ k. to_words 𝓕 (undo F (code_from n b t t' k) (λ v. v) d (elements 𝓕 (every_from n b (2 ^ d) w k)))

  module _ (d n : ℕ) (t t' w : List ℕ) (𝓑 : BlockInput 𝓕 d n t t' w) (b : ℕ) (h : b < n) (s : ℕ) (es : s ≡ min b (length t)) where
    -- what is lent of the diagonals and of the block
    abbrev first : List ℕ
    first = take (length t - s) (drop s t)

    abbrev second : List ℕ
    second = take (length t' - s) (drop s t')

    abbrev block : List ℕ
    block = take (length w - b) (drop b w)

    pub block_within : b ≤ length w
    block_within = omega (arith, 𝓑.sized, mul-le-mul_left {m = 1} {n = 2 ^ d} n (pow_pos d), mul-one n)

    first_is : first ≡ drop b t
    first_is = tail_part s t ∙ ap (λ k. drop k t) es ∙ drop_least b t

    second_is : second ≡ drop b t'
    second_is = tail_part s t' ∙ ap (λ k. drop k t') (es ∙ ap (min b) (𝓑.first ∙ sym 𝓑.second)) ∙ drop_least b t'

    block_is : block ≡ drop b w
    block_is = tail_part b w

    pub from_column : (size : ℕ) → 2 ^ d + 2 ^ d ≤ size → ColumnInput 𝓕 d n first second block size
    from_column size room =
        rw (first_is, second_is, block_is)
        (record {
          depth = 𝓑.depth;
          some = omega arith;
          wide = 𝓑.wide;
          first = omega (arith, length-drop b t, 𝓑.first);
          second = omega (arith, length-drop b t', 𝓑.second);
          low = low_drop b 𝓑.low;
          low' = low_drop b 𝓑.low';
          apart = λ p l e. 𝓑.apart (b + p * n) (omega (arith, 𝓑.first, stride_within p n (2 ^ d - 1) l, mul_comm n (2 ^ d - 1)))
              (sym (get_or-drop b t (p * n) 0) ∙ e ∙ get_or-drop b t' (p * n) 0);
          places = omega (arith, length-drop b w, 𝓑.sized, block_within);
          block = low_drop b 𝓑.block;
          work = room;
        })

    pub column_undone : {v : List ℕ} → v ≡ undone_words 𝓕 d n 0 first second block → v ≡ undone_words 𝓕 d n b t t' w
    column_undone e = e ∙ (λ k. undone_words 𝓕 d n 0 (first_is k) (second_is k) (block_is k)) ∙ undone_from d n b t t' w

    -- the inverses of column b are those of what is lent
    pub inverses_from : {v : List ℕ} (m : ℕ) → v ≡ gap_inverses 𝓕 n m (drop b t) (drop b t') → v ≡ gap_inverses 𝓕 n m first second
    inverses_from m e = e ∙ (λ k. gap_inverses 𝓕 n m (sym first_is k) (sym second_is k))
