-- The groups across the undone columns, solved, are the message. Assumes nothing.
use mathlib.Core.Path.{◌≡◌, sym, ap, ◌∙◌}
use mathlib.Core.List.{List, [], ◌++◌}
use Prim.Native.Nat.{ℕ, ◌*◌, ◌/◌, ◌^◌, ◌≤◌}
use native.Mathlib.Nat.{mul-div_cancel_left}
use native.Mathlib.Omega.{arith}
use lib.ListN.{length, take, get_or, length-take}
use lib.Pow.{pow_pos}
use lib.Seq.{take_at}
use Rattle.algebra.specs.Words.{PrimeField}
use Rattle.algebra.specs.WordLists.{Low}
use Rattle.base_columns.specs.Steps.{BlocksLent, solved_blocks}
use Rattle.base_undo.specs.Steps.{grouped, column_word, undone_words, GroupsLent, RowsInput, ColumnsUndone, decoded_rows}
use Rattle.base_undo.specs.Laws.{grouped_ext, low_groups, decoded_columns}
use Rattle.base_undo.proofs.Columns.{few, all}

module _ (𝓕 : PrimeField) (d k n : ℕ) (m t t' b : List ℕ) (size : ℕ) (𝓘 : RowsInput 𝓕 d k n t t' b size) (q : ℕ) (en : q ≡ 2 ^ d) where
  open 𝓕 use {modulus as P}

  module _ (w₁ : List ℕ) (l₁ : length w₁ ≡ size) (𝓒 : ColumnsUndone 𝓕 d k n t t' b w₁) where
    pub grouping : GroupsLent k q w₁
    grouping =
        record {
          some = 𝓘.some;
          few = 𝓘.few;
          words = omega (arith, pow_pos d);
          most = few 𝓕 d k n t t' b size 𝓘 q en;
          within = omega (arith, all 𝓕 d k n t t' b size 𝓘 q en);
        }

    abbrev undone_word : ℕ → ℕ → ℕ
    undone_word a j = get_or (undone_words 𝓕 d n a t t' b) j 0

    module _ (w₂ : List ℕ) (l₂ : length w₂ ≡ length w₁) (e₂ : take (k * q) w₂ ≡ grouped k q (column_word k q w₁)) where
      groups_are : take (k * q) w₂ ≡ grouped k (2 ^ d) undone_word
      groups_are =
          e₂ ∙ ap (λ x. grouped k x (column_word k x w₁)) en
          ∙ grouped_ext k (2 ^ d) _ undone_word (λ a j h l. 𝓒.at a j h l)

      pub end_within : k * q ≤ length w₂
      end_within = omega (arith, all 𝓕 d k n t t' b size 𝓘 q en)

      pub length_front : length (take (k * q) w₂) ≡ k * q
      length_front = length-take (k * q) w₂ ∙ omega (arith, end_within)

      pub solving : length m ≡ 16 → Low P m → BlocksLent 𝓕 k m (take (k * q) w₂)
      solving e l =
          record {
            some = 𝓘.some;
            few = 𝓘.few;
            whole = length_front ∙ sym (ap (λ x. k * x) (ap (λ x. x / k) length_front ∙ mul-div_cancel_left q 𝓘.some));
            sixteen = e;
            low_matrix = l;
            low = rw groups_are (low_groups 𝓕 d k n [] m t t' b size 𝓘);
          }

      pub message_is : (r rest : List ℕ) → length r ≡ length (take (k * q) w₂) → r ≡ solved_blocks 𝓕 k m (take (k * q) w₂)
          → (g : List ℕ) → take (k * 2 ^ d) (r ++ rest) ≡ decoded_rows 𝓕 d k n g m t t' b
      message_is r rest l e g =
          take_at r rest (k * 2 ^ d) (l ∙ length_front ∙ ap (λ x. k * x) en)
          ∙ e ∙ ap (solved_blocks 𝓕 k m) groups_are ∙ decoded_columns 𝓕 d k n g m t t' b size 𝓘
