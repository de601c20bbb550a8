-- One word a base message: the base matrix is one row, and the step is that of one row. Assumes nothing.
use mathlib.Core.Path.{◌≡◌, sym, ap, ◌∙◌}
use mathlib.Core.List.{List}
use Prim.Native.Nat.{ℕ, suc, ◌*◌, ◌^◌}
use native.Mathlib.Nat.{one-mul}
use native.Mathlib.Omega.{arith}
use lib.ListN.{length, take, drop}
use lib.Seq.{take_all}
use Rattle.algebra.specs.Words.{PrimeField}
use Rattle.job.specs.Limits.{block_size}
use Rattle.base_spread.specs.LentRows.{codeword_rows}
use Rattle.base_spread.specs.LentRowLaws.{first_coding, codeword_one}
use Rattle.halves_step.specs.Steps.{CodeLent as OneLent, RightWritten as OneWritten}
use Rattle.base_halves_step.specs.Steps.{right_half, CodeLent, RightWritten}

module _ (𝓕 : PrimeField) (i k n b : ℕ) (g t t' w : List ℕ) (𝓒 : CodeLent 𝓕 i k n b g t t' w) (e : k ≡ 1) where
  open 𝓕 use {modulus as P}

  row_is : length g ≡ n
  row_is = 𝓒.coding.lent.long ∙ ap (λ c. c * n) e ∙ one-mul n

  words_are : (h : ℕ) → k * h ≡ h
  words_are h = ap (λ c. c * h) e ∙ one-mul h

  size_is : block_size n i ≡ block_size (length g) i
  size_is = ap (λ c. block_size c i) (sym row_is)

  pub one_lent : OneLent 𝓕 i b g t t' w
  one_lent =
      record {
        coding = rw (take_all n g (omega (arith, row_is))) at (first_coding 𝓕 𝓒.coding);
        depth = 𝓒.depth;
        message = rw (words_are (2 ^ suc i)) at 𝓒.message;
        behind = omega (arith, words_are (2 ^ suc i), 𝓒.behind);
        within = omega (arith, size_is, 𝓒.within);
      }

  pub one_written : (out : List ℕ) → OneWritten 𝓕 i b g t t' w out → RightWritten 𝓕 i k n b g t t' w out
  one_written out 𝓦 =
      record {
        kept = 𝓦.kept;
        right =
            ap (λ c. take c (drop b out)) size_is
            ∙ 𝓦.right
            ∙ sym (codeword_one 𝓕 i g t t' (take (2 ^ i) (drop (2 ^ i) w)))
            ∙ (λ j. codeword_rows 𝓕 i (sym e j) (row_is j) g t t' (right_half (sym (words_are (2 ^ i)) j) w));
      }
