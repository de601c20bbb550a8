-- v times a column of the base matrix, term by term, and what each base check compares. Assumes nothing.
use mathlib.Core.Path.{◌≡◌, refl, sym, ap, ◌∙◌}
use mathlib.Core.Bool.{true, false}
use mathlib.Core.List.{List}
use Prim.Native.Nat.{ℕ, ◌+◌, ◌*◌, ◌<◌}
use native.Mathlib.Numerals.{add-one}
use native.Mathlib.Omega.{arith}
use lib.Dec.{eqb}
use lib.ListN.{length, get_or}
use borrow.Author.Tests.{eq-eqb, ne_eqb}
use Rattle.algebra.specs.Sums.{sum}
use Rattle.algebra.specs.Words.{PrimeField}
use Rattle.algebra.specs.WordLists.{val_zero, modulus_pos}
use Rattle.residue.specs.ResidueLaws.{is_low, stands}
use Rattle.verdict.specs.Equality.{its_word, same_words}
use Rattle.cofactor.specs.RowLaws.{row_within}
use Rattle.base_checks.specs.Steps.{base_word, base_at, WordLent, BasesLent}
use Rattle.base_checks.specs.Laws.{base_sum}

module _ (𝓕 : PrimeField) where
  infixl 65 ◌⊞◌
  infixl 70 ◌⊠◌
  open 𝓕 use {modulus as P, field as F, words as W}
  open F use {ring as K}
  open K use {R as Element, ◌+◌ as ◌⊞◌, ◌*◌ as ◌⊠◌}
  open W use {el, val as word}

  -- column j of row b is a place of the matrix
  pub within : {n j b : ℕ} {v g : List ℕ} → WordLent 𝓕 n v g j → b < length v → b * n + j < length g
  within {n} {j} {b} {v} 𝓛 h = omega (arith, row_within (length v) n b h, 𝓛.base.matrix.long, 𝓛.column)

  -- what the loop knows of the sum s before turn b
  pub record Summed (b n : ℕ) (v g : List ℕ) (j s : ℕ) : Type 0 where
    pub is : s ≡ word (sum K b (λ i. el (get_or v i 0) ⊠ el (get_or g (i * n + j) 0)))

  pub summed_none : (n : ℕ) (v g : List ℕ) (j : ℕ) → Summed 0 n v g j 0
  unfolding sum
  summed_none n v g j = record { is = sym (val_zero 𝓕 (modulus_pos 𝓕)) }

  pub summed_low : {b n j s : ℕ} {v g : List ℕ} → Summed b n v g j s → s < P
  summed_low p = is_low 𝓕 _ p.is

  pub summed_turn : {b n j s t : ℕ} {v g : List ℕ} → Summed b n v g j s → t ≡ word (el s ⊞ el (get_or v b 0) ⊠ el (get_or g (b * n + j) 0)) → Summed (b + 1) n v g j t
  unfolding sum
  summed_turn {b} {n} {j} {v = v} {g = g} p e =
      record { is = e ∙ ap (λ x. word (x ⊞ el (get_or v b 0) ⊠ el (get_or g (b * n + j) 0))) (stands 𝓕 _ p.is) ∙ ap (λ m. word (sum K m (λ i. el (get_or v i 0) ⊠ el (get_or g (i * n + j) 0)))) (sym (add-one b)) }

  pub summed_end : {b n j s t : ℕ} {v g : List ℕ} → WordLent 𝓕 n v g j → b ≡ length v → Summed b n v g j s → t ≡ s → t ≡ word (base_word 𝓕 (length v) n v g j)
  summed_end {n = n} {j = j} {v = v} {g = g} 𝓛 h p e =
      e ∙ p.is
      ∙ ap (λ m. word (sum K m (λ i. el (get_or v i 0) ⊠ el (get_or g (i * n + j) 0)))) h
      ∙ ap word (sym (base_sum 𝓕 (length v) n g (omega (arith, 𝓛.base.matrix.long)) v refl j 𝓛.column))

  -- base j, by the words: m, which is the residue x, is what the block's word is compared with
  module _ (n : ℕ) (v g b : List ℕ) (𝓑 : BasesLent 𝓕 n v g b) (j m x : ℕ) (h : j < n) (em : m ≡ x) (ex : x ≡ word (base_word 𝓕 (length v) n v g j)) where
    test_is : eqb (get_or b j 0) m ≡ (base_at 𝓕 n v g b j).1
    test_is = let s = 𝓑.size in same_words 𝓕 _ _ (its_word 𝓕 (get_or b j 0) (𝓑.block.low j (omega arith))) (em ∙ ex)

    pub base_holds : m ≡ get_or b j 0 → (base_at 𝓕 n v g b j).1 ≡ true
    base_holds q = sym test_is ∙ eq-eqb _ _ (sym q)

    pub base_fails : (m ≡ get_or b j 0 → ⊥) → (base_at 𝓕 n v g b j).1 ≡ false
    base_fails q = sym test_is ∙ ne_eqb _ _ (λ a. q (sym a))
