-- Base messages of one word: the matrix is a factor of all words. Assumes nothing.
use mathlib.Core.Path.{◌≡◌, refl, sym, ap, ap₂, ◌∙◌}
use mathlib.Core.List.{List, [], ◌∷◌, ◌++◌, flat_map}
use Prim.Native.Nat.{ℕ, suc, ◌*◌, ◌/◌}
use native.Mathlib.Nat.{one-mul}
use native.Mathlib.Omega.{arith}
use lib.ListN.{length, get_or, take, drop}
use Rattle.algebra.specs.Lists.{row, row_ext, zip}
use Rattle.algebra.specs.Matrix.{times}
use Rattle.algebra.specs.Words.{PrimeField}
use Rattle.algebra.specs.WordLists.{elements, to_words}
use Rattle.residue.specs.Elements.{product}
use Rattle.blocks.specs.Base.{base_messages}
use Rattle.cofactor.specs.Rows.{rows, first_columns}
use Rattle.base_matrix.specs.Inverting.{solved}
use Rattle.base_matrix.specs.Steps.{scaled_words}
use Rattle.base_columns.specs.Steps.{BlocksLent, solved_blocks}

module _ (𝓕 : PrimeField) where
  infixl 65 ◌⊞◌
  infixl 70 ◌⊠◌
  open 𝓕 use {modulus as P, field as F, words as W}
  open F use {ring as K}
  open K use {◌+◌ as ◌⊞◌, ◌*◌ as ◌⊠◌, 𝟘, add-zero, mul_comm}
  open W use {el, val as word}

  solved_word : (m : List ℕ) → length m ≡ 16 → (x : ℕ) → product 𝓕 (get_or m 0 0) x ∷ [] ≡ solved 𝓕 m (x ∷ [])
  unfolding solved first_columns rows row times elements to_words zip
  solved_word [] e x = absurd (omega arith)
  solved_word (y ∷ m) e x = ap (λ v. word v ∷ []) (mul_comm (el y) (el x) ∙ sym (add-zero (el x ⊠ el y)))

  module _ (m : List ℕ) (e : length m ≡ 16) where
    solved_words : (w : List ℕ) → scaled_words 𝓕 (get_or m 0 0) w ≡ flat_map (solved 𝓕 m) (base_messages 1 (length w) w)
    unfolding scaled_words base_messages row flat_map
    solved_words [] = refl
    solved_words (x ∷ w) =
        let next : (j : ℕ) → suc (1 * j) ≡ 1 * suc j = λ j. omega arith in
        ap₂ ◌++◌ (solved_word m e x) (solved_words w ∙ ap (flat_map (solved 𝓕 m)) (row_ext (length w) _ _ (λ j h. ap (λ n. take 1 (drop n (x ∷ w))) (next j))))

  pub one_solved : {k : ℕ} (m w : List ℕ) → BlocksLent 𝓕 k m w → k ≡ 1 → {a : ℕ} → a ≡ get_or m 0 0 → scaled_words 𝓕 a w ≡ solved_blocks 𝓕 k m w
  unfolding solved_blocks
  one_solved {k} m w 𝓑 e {a} f =
      let count : length w ≡ length w / k = 𝓑.whole ∙ ap (λ c. c * (length w / k)) e ∙ one-mul (length w / k) in
      ap (λ q. scaled_words 𝓕 q w) f ∙ solved_words m 𝓑.sixteen w ∙ ap₂ (λ c q. flat_map (solved 𝓕 m) (base_messages c q w)) (sym e) count
