-- The room for a fold of pairs, with the inverses in its first half. Assumes nothing.
use mathlib.Core.Path.{◌≡◌, sym, ap, ◌∙◌}
use mathlib.Core.List.{List, ◌++◌}
use Prim.Native.Nat.{ℕ}
use native.Mathlib.Omega.{arith}
use lib.ListN.{length, take, drop, length-append, length-take, length-drop}
use lib.Seq.{take_at}
use Rattle.algebra.specs.Words.{PrimeField}
use Rattle.algebra.specs.WordLists.{low_words}
use Rattle.inversion.specs.Inversion.{gap, gap_inverses, Diagonals}
use Rattle.inversion.specs.InversionLaws.{length_rows}
use Rattle.pair_fold.specs.Steps.{PairLinesLent}
use Rattle.pair_fold.specs.Folding.{PairFoldLent}

module _ (𝓕 : PrimeField) {t t2 w out : List ℕ} (L : PairFoldLent 𝓕 t t2 w out) where
  open 𝓕 use {field as F}
  open F use {inv}

  pub part : length t ≡ length (take (length t) out)
  part = sym (length-take (length t) out ∙ omega (arith, L.room))

  pub part_diagonals : Diagonals 𝓕 1 (length (take (length t) out)) t t2
  part_diagonals = rw (sym part) L.diagonals

  -- r takes the place of the first half
  module _ (r : List ℕ) (e : r ≡ gap_inverses 𝓕 1 (length (take (length t) out)) t t2) where
    made : r ≡ gap_inverses 𝓕 1 (length t) t t2
    made = e ∙ ap (λ n. gap_inverses 𝓕 1 n t t2) (sym part)

    size : length r ≡ length t
    size = ap length made ∙ length_rows 𝓕 (length t) (λ k. inv (gap 𝓕 1 t t2 k))

    pub begins : take (length t) (r ++ drop (length t) out) ≡ gap_inverses 𝓕 1 (length t) t t2
    begins = take_at r (drop (length t) out) (length t) size ∙ made

    pub lines_lent : PairLinesLent 𝓕 t w (r ++ drop (length t) out)
    lines_lent =
        record {
          room = length-append r (drop (length t) out) ∙ omega (arith, size, length-drop (length t) out, L.room);
          whole = L.whole;
          low = L.diagonals.low;
          block = L.block;
          inverses = rw begins (low_words 𝓕 _);
        }
