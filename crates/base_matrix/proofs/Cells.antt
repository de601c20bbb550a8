-- The adjugate and the inverse, place by place. Assumes nothing.
use mathlib.Core.Bool.{Bool, true, false, ◌&&◌, cond, false≢true}
use mathlib.Core.Path.{◌≡◌, refl, sym, ap, ap₂, ◌∙◌}
use mathlib.Core.List.{List, [], ◌∷◌, map}
use Prim.Native.Nat.{ℕ, zero, suc, ◌+◌, ◌*◌, ◌-◌, ◌/◌, ◌%◌, ◌<◌, ◌≤◌}
use native.Mathlib.Omega.{arith}
use lib.Dec.{ltb}
use lib.ListN.{length, get_or, take, replicate, length-take, get_or-replicate}
use lib.Seq.{get_or-take}
use borrow.Author.Tests.{lt-ltb, le-ltb}
use Rattle.algebra.specs.Algebra.{algebra, quote}
use Rattle.algebra.specs.Lists.{row, length_row, get_or_row, row_ext, map_row}
use Rattle.algebra.specs.Sums.{sum, sum_ext}
use Rattle.algebra.specs.Words.{PrimeField}
use Rattle.algebra.specs.WordLists.{Low, low_take, val_zero, modulus_pos}
use Rattle.residue.specs.ResidueLaws.{stands}
use Rattle.determinant.specs.Inverse.{Square}
use Rattle.determinant.specs.Determinant.{minor, entry, sign, det, adjugate, inverse}
use Rattle.determinant.specs.Exactly.{invertible, singular_exactly}
use Rattle.cofactor.specs.Rows.{first_columns, Lent}
use Rattle.job.specs.SizeLaws.{size_least, size_most}
use Rattle.cofactor.specs.RowLaws.{table, row_within, first_columns_lem, first_square}
use Rattle.cofactor.specs.Cofactors.{minor_at, cofactor_at}
use Rattle.base_matrix.specs.Inverting.{Inverts}
use Rattle.base_matrix.specs.Steps.{cell_at, scaled_words, product_at, ProductLent}
use Rattle.base_matrix.proofs.Products.{length_scaled, scaled_at, low_scaled}

module _ (𝓕 : PrimeField) where
  infixl 70 ◌⊠◌
  open 𝓕 use {modulus as P, field as F, words as W}
  open F use {ring as K, inv}
  open K use {R as Element, ◌*◌ as ◌⊠◌, 𝟘}
  open W use {el, val as word}

  module _ (k n : ℕ) (g : List ℕ) (p : ℕ) where
    by_tests : {a b : Bool} → ltb (p / 4) k ≡ a → ltb (p % 4) k ≡ b → cond (a && b) (word (cofactor_at 𝓕 k n g (p % 4) (p / 4))) 0 ≡ cell_at 𝓕 k n g p
    unfolding cell_at
    by_tests e f = sym (ap₂ (λ a b. cond (a && b) (word (cofactor_at 𝓕 k n g (p % 4) (p / 4))) 0) e f)

    pub no_row : k ≤ p / 4 → 0 ≡ cell_at 𝓕 k n g p
    no_row h = by_tests (le-ltb (p / 4) k h) refl

    pub no_column : p / 4 < k → k ≤ p % 4 → 0 ≡ cell_at 𝓕 k n g p
    no_column h l = by_tests (lt-ltb (p / 4) k h) (le-ltb (p % 4) k l)

    pub in_both : p / 4 < k → p % 4 < k → {w : ℕ} → w ≡ word (cofactor_at 𝓕 k n g (p % 4) (p / 4)) → w ≡ cell_at 𝓕 k n g p
    in_both h l e = e ∙ by_tests (lt-ltb (p / 4) k h) (lt-ltb (p % 4) k l)

    pub low_cell : cell_at 𝓕 k n g p < P
    unfolding cell_at
    low_cell = by (ltb (p / 4) k && ltb (p % 4) k)
      where
        by : (b : Bool) → cond b (word (cofactor_at 𝓕 k n g (p % 4) (p / 4))) 0 < P
        by true = W.val_lt _
        by false = modulus_pos 𝓕

  pub low_cells : (k n : ℕ) (g : List ℕ) {m : List ℕ} → m ≡ row 16 (cell_at 𝓕 k n g) → Low P m
  low_cells k n g e =
      rw e
      (record { low = λ p h. rw (get_or_row 16 (cell_at 𝓕 k n g) p 0 (omega (arith, length_row 16 (cell_at 𝓕 k n g)))) (low_cell k n g p) })

  -- the cofactor, where there is a row
  cofactor_suc : (k n : ℕ) (g : List ℕ) (i j : ℕ) → cofactor_at 𝓕 (suc k) n g i j ≡ sign K (i + j) ⊠ det K k (minor i j (first_columns 𝓕 (suc k) n g))
  unfolding cofactor_at minor_at
  cofactor_suc k n g i j = let e : suc k - 1 ≡ k = omega arith in ap (λ d. sign K (i + j) ⊠ det K d (minor i j (first_columns 𝓕 (suc k) n g))) e

  regroup : (s x d : Element) → s ⊠ x ⊠ d ≡ x ⊠ (s ⊠ d)
  regroup s x d = algebra K (s ∷ x ∷ d ∷ []) (search quote depth 20) refl

  -- the determinant: the first row times the cofactors of its places
  det_first : (k n : ℕ) (g : List ℕ) → 0 < k → k ≤ n → k * n ≤ length g
      → sum K k (λ j. el (get_or g j 0) ⊠ cofactor_at 𝓕 k n g 0 j) ≡ det K k (first_columns 𝓕 k n g)
  unfolding det
  det_first zero n g pos few long = absurd (omega arith)
  det_first (suc k) n g pos few long =
      sym
      (sum_ext K (suc k) _ _ (λ j h.
      let place : 0 * n + j ≡ j = omega arith in
      let sum : 0 + j ≡ j = omega arith in
      let first = get_or_row (suc k) (λ i. row (suc k) (λ j. el (get_or g (i * n + j) 0))) 0 [] (omega arith) in
      let here : entry K (first_columns 𝓕 (suc k) n g) 0 j ≡ el (get_or g j 0) =
      ap (λ B. entry K B 0 j) (first_columns_lem 𝓕 (suc k) n g few long) ∙ ap (λ v. get_or v j 𝟘) first
      ∙ get_or_row (suc k) (λ j. el (get_or g (0 * n + j) 0)) j 𝟘 h ∙ ap (λ p. el (get_or g p 0)) place in
      ap (λ x. sign K j ⊠ x ⊠ det K k (minor 0 j (first_columns 𝓕 (suc k) n g))) here
      ∙ regroup _ _ _
      ∙ ap (λ x. el (get_or g j 0) ⊠ x) (sym (cofactor_suc k n g 0 j ∙ ap (λ i. sign K i ⊠ det K k (minor 0 j (first_columns 𝓕 (suc k) n g))) sum))))

  -- the adjugate divided by the determinant, by its cofactors
  inverse_table : (k n : ℕ) (g : List ℕ)
      → inverse F k (first_columns 𝓕 k n g) ≡ table k (λ i j. inv (det K k (first_columns 𝓕 k n g)) ⊠ cofactor_at 𝓕 k n g j i)
  unfolding inverse adjugate row
  inverse_table zero n g = refl
  inverse_table (suc k) n g =
      let B = first_columns 𝓕 (suc k) n g in
      let d = inv (det K (suc k) B) in
      let signed : ℕ → ℕ → Element = λ i j. sign K (j + i) ⊠ det K k (minor j i B) in
      map_row (map (◌⊠◌ d)) (suc k) (λ i. row (suc k) (signed i))
      ∙ row_ext (suc k) _ _ (λ i h. map_row (◌⊠◌ d) (suc k) (signed i) ∙ row_ext (suc k) _ _ (λ j l. ap (◌⊠◌ d) (sym (cofactor_suc k n g j i))))

  -- a word is 0 exactly when it stands for 0
  zero_stands : {d : ℕ} (v : Element) → d ≡ word v → d ≡ 0 → v ≡ 𝟘
  zero_stands v e z = sym (stands 𝓕 v e) ∙ ap el z ∙ W.el_zero

  nonzero_stands : {d : ℕ} (v : Element) → d ≡ word v → (d ≡ 0 → ⊥) → v ≡ 𝟘 → ⊥
  nonzero_stands v e n z = n (e ∙ ap word z ∙ val_zero 𝓕 (modulus_pos 𝓕))

  -- the first row is there
  pub first_long : (k n : ℕ) (g : List ℕ) → Lent 𝓕 k n g → length (take k g) ≡ k
  first_long k n g 𝓛 = length-take k g ∙ omega (arith, row_within k n 0 (size_least 𝓛.size), 𝓛.long, 𝓛.few)

  pub product_lent : (k n : ℕ) (g : List ℕ) → Lent 𝓕 k n g → {m : List ℕ} → m ≡ row 16 (cell_at 𝓕 k n g) → ProductLent 𝓕 (take k g) m 0
  product_lent k n g 𝓛 is =
      record {
        few = omega (arith, first_long k n g 𝓛, size_most 𝓛.size);
        column = omega arith;
        sixteen = ap length is ∙ length_row 16 (cell_at 𝓕 k n g);
        low = low_take k 𝓛.low;
        low_matrix = low_cells k n g is;
      }

  -- m holds the adjugate of the first columns A, and v its first row
  module _ (k n : ℕ) (g : List ℕ) (𝓛 : Lent 𝓕 k n g) {m v : List ℕ} (is : m ≡ row 16 (cell_at 𝓕 k n g)) (first : v ≡ take k g) where
    abbrev A : List (List Element)
    A = first_columns 𝓕 k n g

    square : Square k A
    square = first_square 𝓕 k n g 𝓛.few (omega (arith, 𝓛.long))

    most : k ≤ 4
    most = size_most 𝓛.size

    sixteen : length m ≡ 16
    sixteen = ap length is ∙ length_row 16 (cell_at 𝓕 k n g)

    cell_is : (i j : ℕ) → i < k → j < k → el (get_or m (i * 4 + j) 0) ≡ cofactor_at 𝓕 k n g j i
    cell_is i j h l =
        let few = most in
        let p = i * 4 + j in
        let r : p / 4 ≡ i = omega arith in
        let c : p % 4 ≡ j = omega arith in
        stands 𝓕 _
        (ap (λ x. get_or x p 0) is ∙ get_or_row 16 (cell_at 𝓕 k n g) p 0 (omega arith)
        ∙ sym (in_both k n g p (omega arith) (omega arith) refl) ∙ ap₂ (λ a b. word (cofactor_at 𝓕 k n g a b)) c r)

    -- the first row times the first column of the adjugate
    det_is : product_at 𝓕 v m 0 ≡ det K k A
    unfolding product_at
    det_is =
        let long : length v ≡ k = ap length first ∙ first_long k n g 𝓛 in
        ap (λ l. sum K l (λ i. el (get_or v i 0) ⊠ el (get_or m (i * 4 + 0) 0))) long
        ∙ sum_ext K k _ _ (λ i h.
        ap₂ ◌⊠◌ (ap el (ap (λ l. get_or l i 0) first ∙ get_or-take k g i 0 h)) (cell_is i 0 h (size_least 𝓛.size)))
        ∙ det_first k n g (size_least 𝓛.size) 𝓛.few (omega (arith, 𝓛.long))

    module _ {d : ℕ} (e : d ≡ word (product_at 𝓕 v m 0)) where
      d_is : d ≡ word (det K k A)
      d_is = e ∙ ap word det_is

      pub no_inverse : d ≡ 0 → Inverts 𝓕 k n g (record { singular = true; m = replicate 16 0 })
      no_inverse z =
          record {
            refused = (λ h. (singular_exactly F k A square).0 (zero_stands _ d_is z), λ h. refl);
            none = λ h. refl;
            inverse = λ h. absurd (false≢true (sym h));
            sixteen = refl;
            low = record { low = λ p h. rw (get_or-replicate {A = ℕ} 16 p 0 0 h) (modulus_pos 𝓕) };
          }

      -- the adjugate divided by the determinant
      module _ {w : List ℕ} (scaled : w ≡ scaled_words 𝓕 (word (inv (el d))) m) where
        long_scaled : length w ≡ 16
        long_scaled = ap length scaled ∙ length_scaled 𝓕 _ m ∙ sixteen

        inverse_is : first_columns 𝓕 k 4 w ≡ inverse F k A
        inverse_is =
            let q = word (inv (el d)) in
            let quotient : el q ≡ inv (det K k A) = W.el_val _ ∙ ap inv (stands 𝓕 _ d_is) in
            first_columns_lem 𝓕 k 4 w most (omega (arith, most, long_scaled))
            ∙ row_ext k _ _ (λ i h. row_ext k _ _ (λ j l.
            stands 𝓕 _ (ap (λ x. get_or x (i * 4 + j) 0) scaled ∙ scaled_at 𝓕 q m (i * 4 + j)) ∙ ap₂ ◌⊠◌ quotient (cell_is i j h l)))
            ∙ sym (inverse_table k n g)

        pub with_inverse : (d ≡ 0 → ⊥) → Inverts 𝓕 k n g (record { singular = false; m = w })
        with_inverse z =
            let unit = nonzero_stands _ d_is z in
            record {
              refused = (λ h. absurd (false≢true h), λ none. absurd (unit ((singular_exactly F k A square).1 none)));
              none = λ h. absurd (false≢true h);
              inverse = λ h. rw inverse_is (invertible F k A square unit);
              sixteen = long_scaled;
              low = rw scaled (low_scaled 𝓕 _ m);
            }
