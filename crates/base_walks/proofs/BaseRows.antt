-- The base checks are those of v and of block 0 as they are read. Assumes nothing.
use mathlib.Core.Path.{◌≡◌, refl, sym, ap, ◌∙◌, subst}
use mathlib.Core.List.{List}
use Prim.Native.Nat.{ℕ, ◌+◌, ◌≤◌}
use native.Mathlib.Nat.{mul-one}
use native.Mathlib.Omega.{arith}
use lib.ListN.{length, take, drop, length-take, length-drop}
use Rattle.algebra.specs.Lists.{row}
use Rattle.algebra.specs.Words.{PrimeField}
use Rattle.algebra.specs.WordLists.{low_take, low_drop, elements}
use Rattle.basefold.specs.Layout.{final_at, block_of, carried}
use Rattle.basefold.specs.Plain.{elements_block}
use Rattle.basefold.specs.Checks.{bases}
use Rattle.cofactor.specs.Rows.{rows, Lent}
use Rattle.layout.specs.BlockLaws.{carried_words}
use Rattle.base_spread.specs.LentRows.{lent_rows}
use Rattle.base_checks.specs.Steps.{base_at, BasesLent}
use Rattle.base_checks.specs.Laws.{bases_are}
use Rattle.base_walks.specs.Steps.{RowsInput}
use Rattle.base_walks.proofs.ReadRows.{low_at, length_at, deep}

module _ (𝓕 : PrimeField) where
  open 𝓕 use {field as F}

  module _ {d low k n : ℕ} {g t t' w r o : List ℕ} (𝓞 : RowsInput 𝓕 d low k n g t t' w r o) where
    -- v stands within the opening
    pub final_within : final_at d + k ≤ length o
    final_within = omega (arith, 𝓞.opened, 𝓞.sizes.words)

    -- v as it is read, and block 0
    module _ {v b : List ℕ} (ev : v ≡ take k (drop (final_at d) o)) (eb : b ≡ block_of n low d w o 0) where
      value_length : length v ≡ k
      value_length = ap length ev ∙ length-take k (drop (final_at d) o) ∙ omega (arith, final_within, length-drop (final_at d) o)

      pub bases_lent : BasesLent 𝓕 n v g b
      bases_lent =
          record {
            base =
                record {
                  matrix = subst (λ m. Lent 𝓕 m n g) (sym value_length) 𝓞.coding.lent;
                  low = rw ev (low_take k (low_drop (final_at d) 𝓞.opening));
                };
            narrow = 𝓞.sizes.wide;
            size = ap length eb ∙ length_at 𝓕 𝓞 0 (omega arith) ∙ mul-one n;
            block = rw eb (low_at 𝓕 𝓞 0);
          }

      carried_is : carried F low (elements 𝓕 o) (length (elements 𝓕 r)) ≡ elements 𝓕 v
      carried_is = carried_words 𝓕 low d r o 𝓞.challenges ∙ ap (elements 𝓕) (ap (λ m. take m (drop (final_at d) o)) (sym 𝓞.sizes.words) ∙ sym ev)

      block_is : block_of n low (length (elements 𝓕 r)) (elements 𝓕 w) (elements 𝓕 o) 0 ≡ elements 𝓕 b
      block_is =
          ap (λ m. block_of n low m (elements 𝓕 w) (elements 𝓕 o) 0) (deep 𝓕 𝓞) ∙ sym (elements_block 𝓕 n low d w o 0) ∙ ap (elements 𝓕) (sym eb)

      pub checks_are : row n (base_at 𝓕 n v g b) ≡ bases F low (lent_rows 𝓕 k n g t t') (elements 𝓕 w) (elements 𝓕 r) (elements 𝓕 o)
      checks_are =
          sym (bases_are 𝓕 low (lent_rows 𝓕 k n g t t') n v g b refl (ap (λ m. rows 𝓕 m n g) (sym value_length)) (elements 𝓕 w) (elements 𝓕 r) (elements 𝓕 o) carried_is block_is)
