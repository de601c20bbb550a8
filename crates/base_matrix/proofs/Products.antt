-- A row vector times a matrix, term by term; the words of a multiple. Assumes nothing.
use mathlib.Core.Path.{◌≡◌, refl, sym, ap, ◌∙◌}
use mathlib.Core.List.{List, [], ◌∷◌, map}
use Prim.Native.Nat.{ℕ, ◌+◌, ◌*◌, ◌<◌, ◌≤◌}
use native.Mathlib.Numerals.{add-one}
use native.Mathlib.Omega.{arith}
use lib.ListN.{length, get_or, take, length-map, get_or-map}
use Rattle.algebra.specs.Ring.{mul-zero}
use Rattle.algebra.specs.Lists.{row, row_ext, map_row}
use Rattle.algebra.specs.Sums.{sum, sum_ext}
use Rattle.algebra.specs.Matrix.{times}
use Rattle.algebra.specs.Words.{PrimeField}
use Rattle.algebra.specs.WordLists.{Low, elements, to_words, length_elements, get_or_elements, val_zero, modulus_pos}
use Rattle.residue.specs.Elements.{product}
use Rattle.residue.specs.ResidueLaws.{is_low, stands}
use Rattle.determinant.specs.Adjugate.{times_row}
use Rattle.cofactor.specs.RowLaws.{first_columns_lem}
use Rattle.base_matrix.specs.Inverting.{SolveLent, solved}
use Rattle.base_matrix.specs.Steps.{scaled_words, product_at, TimesLent}

-- at most four words, with zeros behind them
front_four : (b : List ℕ) → length b ≤ 4 → take (length b) (get_or b 0 0 ∷ get_or b 1 0 ∷ get_or b 2 0 ∷ get_or b 3 0 ∷ []) ≡ b
front_four [] h = refl
front_four (x ∷ []) h = refl
front_four (x ∷ y ∷ []) h = refl
front_four (x ∷ y ∷ z ∷ []) h = refl
front_four (x ∷ y ∷ z ∷ w ∷ []) h = refl
front_four (x ∷ y ∷ z ∷ w ∷ v ∷ b) h = absurd (omega arith)

pub front_of : (b : List ℕ) {x y z w : ℕ} → length b ≤ 4 → x ≡ get_or b 0 0 → y ≡ get_or b 1 0 → z ≡ get_or b 2 0 → w ≡ get_or b 3 0 → take (length b) (x ∷ y ∷ z ∷ w ∷ []) ≡ b
front_of b h p q r s = rw (p, q, r, s) (front_four b h)

module _ (𝓕 : PrimeField) where
  infixl 65 ◌⊞◌
  infixl 70 ◌⊠◌
  open 𝓕 use {modulus as P, field as F, words as W}
  open F use {ring as K}
  open K use {R as Element, ◌+◌ as ◌⊞◌, ◌*◌ as ◌⊠◌, 𝟘}
  open W use {el, val as word}

  -- what a loop knows of the sum s before turn i
  pub record Summed (i : ℕ) (v m : List ℕ) (j s : ℕ) : Type 0 where
    pub is : s ≡ word (sum K i (λ r. el (get_or v r 0) ⊠ el (get_or m (r * 4 + j) 0)))

  pub summed_none : (v m : List ℕ) (j : ℕ) → Summed 0 v m j 0
  unfolding sum
  summed_none v m j = record { is = sym (val_zero 𝓕 (modulus_pos 𝓕)) }

  pub summed_low : {i j s : ℕ} {v m : List ℕ} → Summed i v m j s → s < P
  summed_low p = is_low 𝓕 _ p.is

  pub summed_turn : {i j s t : ℕ} {v m : List ℕ} → Summed i v m j s → t ≡ word (el s ⊞ el (get_or v i 0) ⊠ el (get_or m (i * 4 + j) 0)) → Summed (i + 1) v m j t
  unfolding sum
  summed_turn {i} {j} {v = v} {m = m} p e =
      record { is = e ∙ ap (λ x. word (x ⊞ el (get_or v i 0) ⊠ el (get_or m (i * 4 + j) 0))) (stands 𝓕 _ p.is) ∙ ap (λ n. word (sum K n (λ r. el (get_or v r 0) ⊠ el (get_or m (r * 4 + j) 0)))) (sym (add-one i)) }

  pub summed_end : {i j s : ℕ} {v m : List ℕ} → i ≡ length v → Summed i v m j s → s ≡ word (product_at 𝓕 v m j)
  unfolding product_at
  summed_end {j = j} {v = v} {m = m} h p = p.is ∙ ap (λ n. word (sum K n (λ r. el (get_or v r 0) ⊠ el (get_or m (r * 4 + j) 0)))) h

  -- the product, column by column
  pub solved_row : (v m : List ℕ) → length v ≤ 4 → length m ≡ 16 → row (length v) (λ j. word (product_at 𝓕 v m j)) ≡ solved 𝓕 m v
  unfolding solved to_words product_at
  solved_row v m few long =
      let k = length v in
      sym
      (ap (λ B. to_words 𝓕 (times K k (elements 𝓕 v) B)) (first_columns_lem 𝓕 k 4 m few (omega arith))
      ∙ ap (to_words 𝓕) (times_row K k k (elements 𝓕 v) (λ i j. el (get_or m (i * 4 + j) 0)) (length_elements 𝓕 v))
      ∙ map_row word k _
      ∙ row_ext k _ _ (λ j h. ap word (sum_ext K k _ _ (λ i l. ap (λ x. x ⊠ el (get_or m (i * 4 + j) 0)) (get_or_elements 𝓕 v i)))))

  pub times_lent : (m b : List ℕ) {v : List ℕ} → SolveLent 𝓕 m b → v ≡ b → TimesLent 𝓕 v m b
  times_lent m b 𝓢 e = rw e (record { few = 𝓢.few; long = refl; sixteen = 𝓢.sixteen; low = 𝓢.low; low_matrix = 𝓢.low_matrix })

  -- a multiple, word by word
  product_zero : (q : ℕ) → product 𝓕 q 0 ≡ 0
  product_zero q = ap word (ap (◌⊠◌ (el q)) W.el_zero ∙ mul-zero K (el q)) ∙ val_zero 𝓕 (modulus_pos 𝓕)

  pub length_scaled : (q : ℕ) (m : List ℕ) → length (scaled_words 𝓕 q m) ≡ length m
  unfolding scaled_words
  length_scaled q m = length-map m (product 𝓕 q)

  pub scaled_at : (q : ℕ) (m : List ℕ) (p : ℕ) → get_or (scaled_words 𝓕 q m) p 0 ≡ product 𝓕 q (get_or m p 0)
  unfolding scaled_words
  scaled_at q m p = sym (ap (get_or (map (product 𝓕 q) m) p) (product_zero q)) ∙ get_or-map (product 𝓕 q) m p 0

  pub low_scaled : (q : ℕ) (m : List ℕ) → Low P (scaled_words 𝓕 q m)
  low_scaled q m = record { low = λ p h. rw (scaled_at q m p) (W.val_lt _) }
