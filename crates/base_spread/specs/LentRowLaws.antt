-- Laws of the code of k base rows: one row makes the code of `lent`, the levels above depend on the length of a row alone, and what the tests say makes it legal. Assumes nothing.
use Rattle.std.specs.Prelude.{◌≡◌, true, List, [], ◌∷◌, ◌++◌, length, drop}
use Rattle.std.proofs.Math.Path.{refl, ap}
use Rattle.std.proofs.Common.{sym, ◌∙◌, zero-mul, le_refl, arith, length-take}
use Prim.Native.Nat.{ℕ, zero, suc, ◌*◌, ◌^◌, ◌≤◌}
use Rattle.std.proofs.Math.ListN.{take}
use Rattle.std.proofs.Math.Seq.{take_all}
use Rattle.algebra.specs.Field.{Field}
use Rattle.algebra.specs.Lists.{row}
use Rattle.algebra.specs.Vector.{vectors}
use Rattle.algebra.specs.Words.{PrimeField}
use Rattle.algebra.specs.WordLists.{Low, low_take, elements, to_words, length_elements}
use Rattle.foldable.specs.Code.{Code, size, encode, Legal}
use Rattle.foldable.specs.Lift.{lift}
use Rattle.job.specs.Limits.{diagonals_size}
use Rattle.words.specs.Scans.{all_differ}
use Rattle.parameters.specs.Lent.{diagonal, lent, codeword, Coding}
use Rattle.parameters.specs.LentLaws.{coding}
use Rattle.cofactor.specs.Rows.{rows, Lent}
use Rattle.job.specs.SizeLaws.{size_least}
use Rattle.cofactor.specs.RowLaws.{row_within, rows_wide}
use Rattle.base_spread.specs.LentRows.{lent_rows, codeword_rows, RowCoding}

-- codes with blocks of the same sizes and the same diagonals have the same levels above the base
module _ (F : Field) (C D : Code F) (n : C.n₀ ≡ D.n₀) (s : (i : ℕ) → C.T i ≡ D.T i) (s' : (i : ℕ) → C.T' i ≡ D.T' i) where
  infixl 66 ◌⊕◌
  infixl 70 ◌⊙◌
  open F use {ring as K}
  open vectors K use {◌⊕◌, ◌⊙◌}

  pub lift_same : (i : ℕ) (w : List K.R) → lift F C i w ≡ lift F D i w
  unfolding lift
  lift_same zero w = refl
  lift_same (suc i) w =
      let l : lift F C i (take (size F C i) w) ≡ lift F D i (take (size F D i) w) = lift_same i (take (size F C i) w) ∙ ap (λ k. lift F D i (take (k * 2 ^ i) w)) n in
      let r : lift F C i (drop (size F C i) w) ≡ lift F D i (drop (size F D i) w) = lift_same i (drop (size F C i) w) ∙ ap (λ k. lift F D i (drop (k * 2 ^ i) w)) n in
      λ j. (l j ⊕ s i j ⊙ r j) ++ (l j ⊕ s' i j ⊙ r j)

module _ (𝓕 : PrimeField) where
  open 𝓕 use {modulus as P, field as F}

  -- one row is the whole of g
  pub rows_one : (g : List ℕ) → rows 𝓕 1 (length g) g ≡ elements 𝓕 g ∷ []
  unfolding rows row
  rows_one g = ap (λ v. elements 𝓕 v ∷ []) (ap (λ k. take (length g) (drop k g)) (zero-mul (length g)) ∙ take_all (length g) g (le_refl (length g)))

  pub lent_one : (g t t' : List ℕ) → lent_rows 𝓕 1 (length g) g t t' ≡ lent 𝓕 g t t'
  lent_one g t t' = λ i. record { n₀ = sym (length_elements 𝓕 g) i; G₀ = rows_one g i; T = λ j. elements 𝓕 (diagonal (length g) t j); T' = λ j. elements 𝓕 (diagonal (length g) t' j) }

  pub codeword_one : (d : ℕ) (g t t' m : List ℕ) → codeword_rows 𝓕 d 1 (length g) g t t' m ≡ codeword 𝓕 d g t t' m
  codeword_one d g t t' m = ap (λ C. to_words 𝓕 (encode F C d (elements 𝓕 m))) (lent_one g t t')

  module _ (k n : ℕ) (g t t' : List ℕ) (long : n ≤ length g) where
    first_length : length (take n g) ≡ n
    first_length = length-take n g ∙ omega arith

    first_elements : length (elements 𝓕 (take n g)) ≡ n
    first_elements = length_elements 𝓕 (take n g) ∙ first_length

    level : (s : List ℕ) (i : ℕ) → elements 𝓕 (diagonal n s i) ≡ elements 𝓕 (diagonal (length (take n g)) s i)
    level s i = ap (λ c. elements 𝓕 (diagonal c s i)) (sym first_length)

    -- the levels above the base are those of the first row alone
    pub lift_rows : (i : ℕ) (w : List F.ring.R) → lift F (lent_rows 𝓕 k n g t t') i w ≡ lift F (lent 𝓕 (take n g) t t') i w
    lift_rows = lift_same F (lent_rows 𝓕 k n g t t') (lent 𝓕 (take n g) t t') (sym first_elements) (level t) (level t')

    first_legal : (d : ℕ) → Legal F (lent_rows 𝓕 k n g t t') d → Legal F (lent 𝓕 (take n g) t t') d
    first_legal d 𝓛 =
        record {
          base = (refl, tt);
          first = λ i h. ap length (sym (level t i)) ∙ 𝓛.first i h ∙ ap (λ c. c * 2 ^ i) (sym first_elements);
          second = λ i h. ap length (sym (level t' i)) ∙ 𝓛.second i h ∙ ap (λ c. c * 2 ^ i) (sym first_elements);
          apart = λ i h. rw (← level t i, ← level t' i) (𝓛.apart i h);
        }

    -- and legal where those of the first row are
    rows_legal : (d : ℕ) → k ≤ n → k * n ≤ length g → Legal F (lent 𝓕 (take n g) t t') d → Legal F (lent_rows 𝓕 k n g t t') d
    rows_legal d few all 𝓛 =
        record {
          base = rows_wide 𝓕 k n g few all;
          first = λ i h. ap length (level t i) ∙ 𝓛.first i h ∙ ap (λ c. c * 2 ^ i) first_elements;
          second = λ i h. ap length (level t' i) ∙ 𝓛.second i h ∙ ap (λ c. c * 2 ^ i) first_elements;
          apart = λ i h. rw (level t i, level t' i) (𝓛.apart i h);
        }

  pub first_within : {k n : ℕ} {g : List ℕ} → Lent 𝓕 k n g → n ≤ length g
  first_within {k} {n} {g} 𝓖 = omega (arith, row_within k n 0 (size_least 𝓖.size), 𝓖.long)

  -- so they may be lifted as the first row's
  pub first_coding : {d k n : ℕ} {g t t' : List ℕ} → RowCoding 𝓕 d k n g t t' → Coding 𝓕 d (take n g) t t'
  first_coding {d} {k} {n} {g} {t} {t'} 𝓒 =
      let long = first_within 𝓒.lent in
      let same : diagonals_size (length (take n g)) d ≡ diagonals_size n d = ap (λ c. diagonals_size c d) (first_length k n g t t' long) in
      record {
        first = omega (arith, same, 𝓒.first);
        second = omega (arith, same, 𝓒.second);
        row = low_take n 𝓒.lent.low;
        low = 𝓒.low;
        low' = 𝓒.low';
        legal = first_legal k n g t t' long d 𝓒.legal;
      }

  -- where rows and diagonals are as long as they must be, their words below the modulus and T and T' apart, they make a code
  pub row_coding : {d k n : ℕ} {g t t' : List ℕ} → Lent 𝓕 k n g → length t ≡ diagonals_size n d → length t' ≡ diagonals_size n d → Low P t → Low P t'
      → all_differ t t' ≡ true → RowCoding 𝓕 d k n g t t'
  row_coding {d} {k} {n} {g} {t} {t'} 𝓖 e e' l l' a =
      let long = first_within 𝓖 in
      let same : diagonals_size n d ≡ diagonals_size (length (take n g)) d = ap (λ c. diagonals_size c d) (sym (first_length k n g t t' long)) in
      let 𝓒 = coding 𝓕 d (take n g) t t' (e ∙ same) (e' ∙ same) (low_take n 𝓖.low) l l' a in
      record {
        lent = 𝓖;
        first = omega arith;
        second = omega arith;
        low = l;
        low' = l';
        legal = rows_legal k n g t t' long d 𝓖.few (omega (arith, 𝓖.long)) 𝓒.legal;
      }
