-- What an inverse in words is for, and what a legal base matrix has. Assumes nothing.
use Rattle.std.specs.Prelude.{Bool, true, false, not, ◌↔◌, ◌≡◌, refl, List, ℕ, ◌+◌, ◌*◌, ◌≤◌, eqb}
use Rattle.std.proofs.lemmas.Bool.{false≢true, not-false}
use Rattle.std.proofs.Math.Path.{sym, ap, ap₂}
use Rattle.std.proofs.Common.{◌∙◌, append-nil, eq-eqb, ne_eqb, eqb-true}
use Rattle.std.proofs.Math.Decide.{ℕ_discrete}
use native.Mathlib.Omega.{arith}
use Rattle.std.proofs.Math.ListN.{length, get_or, take, length-take}
use Rattle.std.proofs.lemmas.List.{length-map}
use Rattle.algebra.specs.Flags.{cond_true, cond_false}
use Rattle.algebra.specs.Lists.{row}
use Rattle.algebra.specs.Matrix.{times}
use Rattle.algebra.specs.Words.{PrimeField}
use Rattle.algebra.specs.WordLists.{Low, elements, to_words, length_elements, length_words_lem, elements_words, elements_take, words_elements, val_zero, modulus_pos}
use Rattle.foldable.specs.Code.{Code, encode, Legal}
use Rattle.foldable.specs.Columns.{pick, restrict, column_encode}
use Rattle.foldable.specs.Encode.{length_encode}
use Rattle.foldable.specs.Decode.{Decoder}
use Rattle.words.specs.Scans.{none_zero}
use Rattle.words.specs.ScanLaws.{none_zero_lem}
use Rattle.determinant.specs.Inverse.{Square, Singular}
use Rattle.determinant.specs.Determinant.{det}
use Rattle.determinant.specs.Sizes.{det_one}
use Rattle.determinant.specs.Exactly.{singular_exactly}
use Rattle.blocks.specs.Decoders.{inverse_decoder}
use Rattle.job.specs.Sizes.{Size, one, two, four}
use Rattle.cofactor.specs.Rows.{rows, first_columns, Lent}
use Rattle.cofactor.specs.RowLaws.{first_columns_lem, first_square, rows_count, rows_wide}
use Rattle.base_matrix.specs.declared.Inverted.{Inverted}
use Rattle.base_matrix.specs.Inverting.{Inverts, solved, BaseOk, base_ok}

-- two tests that fail exactly where X holds
same_tests : {X : Type 0} (r b : Bool) → (r ≡ false) ↔ X → (b ≡ false) ↔ X → r ≡ b
same_tests false b p q = sym (q.1 (p.0 refl))
same_tests true false p q = p.1 (q.0 refl)
same_tests true true p q = refl

module _ (𝓕 : PrimeField) where
  open 𝓕 use {field as F, words as W}
  open F use {ring as K}
  open K use {𝟘}
  open W use {el, val as word}

  -- one word that is not 0 has an inverse
  one_unit : (k n : ℕ) (g : List ℕ) → Lent 𝓕 k n g → k ≡ 1 → none_zero g ≡ true → det K k (first_columns 𝓕 k n g) ≡ 𝟘 → ⊥
  unfolding row
  one_unit k n g 𝓛 e z d = by 𝓛.size e 𝓛.few 𝓛.long d
    where
      by : {k : ℕ} → Size k → k ≡ 1 → k ≤ n → length g ≡ k * n → det K k (first_columns 𝓕 k n g) ≡ 𝟘 → ⊥
      by one e few long d =
          let w = get_or g 0 0 in
          let place : 0 * n + 0 ≡ 0 = omega arith in
          let first : el w ≡ 𝟘 =
          ap (λ p. el (get_or g p 0)) (sym place) ∙ sym (det_one K _) ∙ sym (ap (det K 1) (first_columns_lem 𝓕 1 n g few (omega arith))) ∙ d in
          none_zero_lem g z 0 (omega arith) (sym (W.val_el w (𝓛.low.low 0 (omega arith))) ∙ ap word first ∙ val_zero 𝓕 (modulus_pos 𝓕))
      by two e few long d = absurd (omega arith)
      by four e few long d = absurd (omega arith)

module _ (𝓕 : PrimeField) (k n : ℕ) (g : List ℕ) (𝓛 : Lent 𝓕 k n g) where
  open 𝓕 use {modulus as P, field as F, words as W}
  open F use {ring as K}
  open K use {R as Element, 𝟘}
  open W use {el, val as word}

  abbrev A : List (List Element)
  A = first_columns 𝓕 k n g

  long : k * n ≤ length g
  long = omega (arith, 𝓛.long)

  square : Square k A
  square = first_square 𝓕 k n g 𝓛.few long

  -- the determinant's word is 0 exactly when there is no inverse
  zero_exactly : (not (eqb (word (det K k A)) 0) ≡ false) ↔ Singular K k A
  zero_exactly =
      let 𝓢 = singular_exactly F k A square in
      let d = det K k A in (
        λ e. 𝓢.0 (sym (W.el_val d) ∙ ap el (eqb-true _ _ (not-false _ e)) ∙ W.el_zero),
        λ s. ap not (eq-eqb (word d) 0 (ap word (𝓢.1 s) ∙ val_zero 𝓕 (modulus_pos 𝓕))),
      )

  -- the test says what BaseOk asks, and nothing else does
  pub base_exactly : BaseOk 𝓕 k n g (base_ok 𝓕 k n g)
  unfolding base_ok
  base_exactly = record {
    one = λ e. cond_true (none_zero g) _ (eq-eqb k 1 e);
    more = λ m. let c = cond_false (none_zero g) (not (eqb (word (det K k A)) 0)) (ne_eqb k 1 m) in
        (λ e. zero_exactly.0 (sym c ∙ e), λ s. c ∙ zero_exactly.1 s);
  }

  pub base_is : {r : Bool} → BaseOk 𝓕 k n g r → r ≡ base_ok 𝓕 k n g
  base_is {r} b = go (ℕ_discrete k 1)
    where
      go : Dec (k ≡ 1) → r ≡ base_ok 𝓕 k n g
      go (yes e) = b.one e ∙ sym (base_exactly.one e)
      go (no m) = same_tests r (base_ok 𝓕 k n g) (b.more m) (base_exactly.more m)

  -- a legal base matrix is not singular: also one row with no zero
  pub legal_inverse : BaseOk 𝓕 k n g true → {r : Inverted} → Inverts 𝓕 k n g r → r.singular ≡ false
  legal_inverse b {r} 𝓘 = go (ℕ_discrete k 1) r.singular refl
    where
      unit : Dec (k ≡ 1) → Singular K k A → ⊥
      unit (yes e) s = one_unit 𝓕 k n g 𝓛 e (sym (b.one e)) ((singular_exactly F k A square).1 s)
      unit (no m) s = false≢true (sym ((b.more m).1 s))

      go : Dec (k ≡ 1) → (x : Bool) → r.singular ≡ x → x ≡ false
      go d true e = absurd (unit d (𝓘.refused.0 e))
      go d false e = refl

  -- the code of the base matrix, with any diagonals
  module _ (T T' : ℕ → List Element) where
    abbrev pub base_code : Code F
    base_code = record { n₀ = n; G₀ = rows 𝓕 k n g; T = T; T' = T' }

    module _ {r : Inverted} (𝓘 : Inverts 𝓕 k n g r) (unit : r.singular ≡ false) where
      -- a base block is decoded by its first k words times the inverse
      pub base_decoder : Decoder F base_code k (λ w. times K k w (first_columns 𝓕 k 4 r.m))
      unfolding first_columns
      base_decoder = inverse_decoder F base_code k (rows_count 𝓕 k n g 𝓛.few long) 𝓛.few (rows_wide 𝓕 k n g 𝓛.few long) _ (𝓘.inverse unit)

      -- what is solved by the first k words of a base block is its message
      pub solve_base : (w : List ℕ) → length w ≡ k → Low P w → solved 𝓕 r.m (take k (to_words 𝓕 (encode F base_code 0 (elements 𝓕 w)))) ≡ w
      unfolding solved pick
      solve_base w e l =
          let m = elements 𝓕 w in
          let E = encode F base_code 0 m in
          let b = take k (to_words 𝓕 E) in
          let legal : Legal F base_code 0 =
          record { base = rows_wide 𝓕 k n g 𝓛.few long; first = λ i h. absurd (omega arith); second = λ i h. absurd (omega arith); apart = λ i h. absurd (omega arith) } in
          let count = rows_count 𝓕 k n g 𝓛.few long in
          let whole : length m ≡ length (rows 𝓕 k n g) * 1 = length_elements 𝓕 w ∙ e ∙ omega (arith, count) in
          let block : length E ≡ n * 1 = length_encode F base_code 0 legal m in
          let short : length b ≡ k = length-take k (to_words 𝓕 E) ∙ omega (arith, length_words_lem 𝓕 E, 𝓛.few) in
          let front : elements 𝓕 b ≡ encode F (restrict F base_code k) 0 m =
          elements_take 𝓕 k (to_words 𝓕 E) ∙ ap (take k) (elements_words 𝓕 E) ∙ sym (append-nil (take k E)) ∙ column_encode F base_code k 𝓛.few 0 legal m whole in
          ap₂ (λ i v. to_words 𝓕 (times K i v (first_columns 𝓕 i 4 r.m))) short front
          ∙ ap (to_words 𝓕) (base_decoder.base_encode m (whole ∙ ap (λ i. i * 1) (sym (length-map (rows 𝓕 k n g) (take k)))))
          ∙ words_elements 𝓕 w l
