-- The column undone. Assumes nothing.
use mathlib.Core.Path.{◌≡◌, refl, sym, ap, ap₂, ◌∙◌}
use mathlib.Core.List.{List, ◌++◌}
use Prim.Native.Nat.{ℕ, ◌+◌, ◌*◌, ◌-◌, ◌^◌, ◌<◌}
use native.Mathlib.Nat.{zero-add, one-mul, mul_comm, two-pow-succ}
use native.Mathlib.Omega.{arith}
use lib.ListN.{length, take, get_or, length-append}
use lib.Pow.{pow_mono}
use lib.Seq.{take_at, take-append-le, get_or-append-add}
use Rattle.algebra.specs.Lists.{length_row, get_or_row, differ_of}
use Rattle.algebra.specs.Vector.{vectors, multiple_one}
use Rattle.algebra.specs.Words.{PrimeField}
use Rattle.algebra.specs.WordLists.{Low, low_words, low_append, elements, to_words, length_elements, get_or_elements}
use Rattle.foldable.specs.Code.{Code, Legal}
use Rattle.foldable.specs.Decode.{undo}
use Rattle.foldable.specs.Every.{every}
use Rattle.residue.specs.declared.Residue.{Residue}
use Rattle.residue.specs.ResidueLaws.{stands}
use Rattle.inversion.specs.Inversion.{gap, gap_inverses}
use Rattle.inversion.specs.InversionLaws.{length_rows, get_or_rows, elements_differ}
use Rattle.inversion.specs.Strides.{stride_within}
use Rattle.undo.specs.Steps.{ColumnLent, ColumnCode, ColumnUndone}
use Rattle.base_undo.specs.Steps.{column_diagonal, column_of, undone_words, ColumnInput}
use Rattle.base_undo.proofs.Preparing.{diagonals}

module _ (𝓕 : PrimeField) where
  infixl 65 ◌⊟◌
  infixr 71 ◌⊛◌
  open 𝓕 use {modulus as P, field as F, words as W}
  open F use {ring as K, inv}
  open K use {R as Element, 𝟘, 𝟙, ◌-◌ as ◌⊟◌}
  open W use {el, val as word}
  open vectors K use {◌⊛◌}

  -- one
  abbrev pub unit : Residue
  unit = record { 0 = 1 }

  module _ (d n : ℕ) (t t' b : List ℕ) (k : ℕ) (𝓓 : ColumnInput 𝓕 d n t t' b k) where
    abbrev Column : Code F
    Column = column_of 𝓕 n 0 t t'

    -- a level's diagonal, in the slice of all
    column_at : (s : List ℕ) (i j : ℕ) → j < 2 ^ i → get_or (elements 𝓕 (column_diagonal n 0 s i)) j 𝟘 ≡ el (get_or s ((2 ^ i - 1 + j) * n) 0)
    column_at s i j h =
        get_or_elements 𝓕 (column_diagonal n 0 s i) j
        ∙ ap el (get_or_row (2 ^ i) (λ j. get_or s (0 + (2 ^ i - 1 + j) * n) 0) j 0 h ∙ ap (λ p. get_or s p 0) (zero-add ((2 ^ i - 1 + j) * n)))

    length_level : (s : List ℕ) (i : ℕ) → length (elements 𝓕 (column_diagonal n 0 s i)) ≡ 2 ^ i
    length_level s i = length_elements 𝓕 (column_diagonal n 0 s i) ∙ length_row (2 ^ i) _

    place_low : (i j : ℕ) → i < d → j < 2 ^ i → 2 ^ i - 1 + j < 2 ^ d - 1
    place_low i j h l = omega (arith, pow_mono h, two-pow-succ i)

    legal : Legal F Column d
    legal =
        record {
          base = tt;
          first = λ i h. length_level t i ∙ sym (one-mul (2 ^ i));
          second = λ i h. length_level t' i ∙ sym (one-mul (2 ^ i));
          apart = λ i h. differ_of 𝟘 (elements 𝓕 (column_diagonal n 0 t i)) (elements 𝓕 (column_diagonal n 0 t' i)) (λ j l m e. let low : j < 2 ^ i = omega (arith, length_level t i) in
              elements_differ 𝓕 (diagonals 𝓕 𝓓) (2 ^ i - 1 + j) (place_low i j h low) (sym (column_at t i j low) ∙ e ∙ column_at t' i j low));
        }

    abbrev column : List ℕ
    column = every 0 n 0 (2 ^ d) b

    abbrev inverses : List ℕ
    inverses = gap_inverses 𝓕 n (2 ^ d - 1) t t'

    low_column : Low P column
    low_column =
        record {
          low = λ j h. let l : j < 2 ^ d = omega (arith, length_row (2 ^ d) (λ i. get_or b (0 + i * n) 0)) in
              rw (get_or_row (2 ^ d) (λ i. get_or b (0 + i * n) 0) j 0 l) (𝓓.block.low (0 + j * n) (omega (arith, 𝓓.places, stride_within j n (2 ^ d) l, mul_comm n (2 ^ d), 𝓓.some)));
        }

    module _ (w : List ℕ) (e : w ≡ column ++ inverses) where
      column_code_lem : ColumnCode 𝓕 d (2 ^ d) n t w Column
      column_code_lem =
          record {
            one = refl;
            legal = legal;
            first = λ i j h l. column_at t i j l;
            inverse = λ i j h l.
                let m = 2 ^ i - 1 + j in
                ap el (ap₂ (λ v n. get_or v (n + m) 0) e (sym (length_row (2 ^ d) _)) ∙ get_or-append-add column inverses m 0)
                ∙ stands 𝓕 _ (get_or_rows 𝓕 (2 ^ d - 1) (λ p. inv (gap 𝓕 n t t' p)) m (place_low i j h l))
                ∙ ap₂ (λ x y. inv (x ⊟ y)) (sym (column_at t' i j l)) (sym (column_at t i j l));
          }

      long : length w ≡ 2 ^ d + (2 ^ d - 1)
      long = ap length e ∙ length-append column inverses ∙ ap₂ ◌+◌ (length_row (2 ^ d) _) (length_rows 𝓕 (2 ^ d - 1) _)

      module _ (q : ℕ) (en : q ≡ 2 ^ d) where
        pub undoing : ColumnLent 𝓕 d q unit n t w
        undoing =
            record {
              depth = 𝓓.depth;
              some = 𝓓.some;
              wide = 𝓓.wide;
              unit = omega (arith, 𝓕.above);
              behind = omega arith;
              within = omega (arith, long);
              diagonal = 𝓓.first;
              low = 𝓓.low;
              block = rw e (low_append {v = column} low_column (low_words 𝓕 _));
            }

        pub first_undone : (u rest : List ℕ) → length u ≡ length w → ColumnUndone 𝓕 d q unit n t w u → take (2 ^ d) (u ++ rest) ≡ undone_words 𝓕 d n 0 t t' b
        unfolding undone_words
        first_undone u rest l 𝓤 =
            take-append-le (2 ^ d) u rest (omega (arith, long)) ∙ 𝓤.column Column (rw en column_code_lem)
            ∙ ap₂ (λ (f : List Element → List Element) v. to_words 𝓕 (undo F Column f d (elements 𝓕 v)))
            (λ i v. (ap (λ y. y ⊛ v) W.el_one ∙ multiple_one K v) i)
            (ap (take (2 ^ d)) e ∙ take_at column inverses (2 ^ d) (length_row (2 ^ d) _))
