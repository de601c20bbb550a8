-- Laws of the matrix product. Assumes nothing.
use Rattle.std.specs.Prelude.{◌≡◌, ◌↔◌, length}
use Rattle.std.proofs.Math.Path.{refl, sym, ap, ap₂}
use Rattle.std.proofs.Common.{◌∙◌, arith, eq-eqb, ne_eqb}
use mathlib.Core.List.{List, [], ◌∷◌, map}
use Prim.Native.Nat.{ℕ, zero, suc}
use Rattle.std.proofs.Math.Nat.{suc_inj}
use Rattle.std.proofs.Math.Decide.{ℕ_discrete}
use Rattle.std.proofs.Math.ListN.{length-map}
use Rattle.std.proofs.lemmas.List.{length-replicate}
use Rattle.algebra.specs.Ring.{Ring, zero-mul, mul-zero}
use Rattle.algebra.specs.Flags.{cond_true, cond_false}
use Rattle.algebra.specs.Lists.{row, length_row, row_ext, map_row, zip}
use Rattle.algebra.specs.Vector.{vectors, multiple_one, multiple_sum, multiple_multiple, multiple_zeros, zeros_sum, sum_zeros}
use Rattle.algebra.specs.Matrix.{Wide, wide_map, times, length_times, times_sum, times_multiple}
use Rattle.determinant.specs.Inverse.{Square, product, diagonal, identity, Inverse}
use Rattle.determinant.specs.Places.{row_replicate, wide_row}

module _ (K : Ring) where
  infixl 66 ◌⊕◌
  infixr 71 ◌⊛◌
  open K use {R, 𝟘, 𝟙}
  open vectors K use {◌⊕◌, ◌⊛◌, zeros}

  zero_multiple : (v : List R) → 𝟘 ⊛ v ≡ zeros (length v)
  zero_multiple [] = refl
  zero_multiple (x ∷ v) = ap₂ ◌∷◌ (zero-mul K x) (zero_multiple v)

  pub times_zeros : (n k : ℕ) (M : List (List R)) → Wide n M → times K n (zeros k) M ≡ zeros n
  unfolding times
  times_zeros n zero M w = refl
  times_zeros n (suc k) [] w = refl
  times_zeros n (suc k) (row ∷ M) w =
      ap₂ ◌⊕◌ (zero_multiple row ∙ ap zeros w.0) (times_zeros n k M w.1) ∙ zeros_sum K n (zeros n) (length-replicate n 𝟘)

  pub square_identity : (k : ℕ) → Square k (identity K k)
  unfolding identity
  square_identity k = record { rows = length_row k _; wide = wide_row k k _ (λ i. length_row k _) }

  pub on : (i : ℕ) → diagonal K i i ≡ 𝟙
  unfolding diagonal
  on i = cond_true 𝟙 𝟘 (eq-eqb i i refl)

  pub off : (i j : ℕ) → (i ≡ j → ⊥) → diagonal K i j ≡ 𝟘
  unfolding diagonal
  off i j n = cond_false 𝟙 𝟘 (ne_eqb i j n)

  next : (i j : ℕ) → diagonal K (suc i) (suc j) ≡ diagonal K i j
  next i j = go (ℕ_discrete i j)
    where
      go : Dec (i ≡ j) → diagonal K (suc i) (suc j) ≡ diagonal K i j
      go (yes e) = ap (λ k. diagonal K (suc i) (suc k)) (sym e) ∙ on (suc i) ∙ sym (ap (diagonal K i) (sym e) ∙ on i)
      go (no n) = off (suc i) (suc j) (λ e. n (suc_inj e)) ∙ sym (off i j n)

  -- the identity by its first row and column
  pub identity_suc : (k : ℕ) → identity K (suc k) ≡ (𝟙 ∷ zeros k) ∷ map (λ row. 𝟘 ∷ row) (identity K k)
  unfolding identity row
  identity_suc k =
      ap₂ ◌∷◌ (ap₂ ◌∷◌ (on 0) (row_ext k _ (λ j. 𝟘) (λ j h. off 0 (suc j) (λ e. omega arith)) ∙ row_replicate k 𝟘))
      (row_ext k _ _ (λ i h. ap₂ ◌∷◌ (off (suc i) 0 (λ e. omega arith)) (row_ext k _ _ (λ j l. next i j))) ∙ sym (map_row (λ row. 𝟘 ∷ row) k (λ i. row k (diagonal K i))))

  pub square_product : (k : ℕ) (A M : List (List R)) → Square k A → Square k M → Square k (product K k A M)
  unfolding product
  square_product k A M a m =
      record { rows = length-map A _ ∙ a.rows; wide = wide_map k k (λ v. times K k v M) (λ v e. length_times K k v M m.wide) A a.wide }

  -- (m A) M = m (A M)
  pub times_product : (n k : ℕ) (m : List R) (A M : List (List R)) → Wide k A → Wide n M → times K n (times K k m A) M ≡ times K n m (product K n A M)
  unfolding times product
  times_product n k [] A M w v = times_zeros n k M v
  times_product n k (x ∷ m) [] M w v = times_zeros n k M v
  times_product n k (x ∷ m) (row ∷ A) M w v =
      times_sum K n (x ⊛ row) (times K k m A) M (length-map row (K.◌*◌ x) ∙ w.0 ∙ sym (length_times K k m A w.1))
      ∙ ap₂ ◌⊕◌ (times_multiple K n x row M) (times_product n k m A M w.1 v)

  times_shift : (n : ℕ) (m : List R) (G : List (List R)) → times K (suc n) m (map (λ row. 𝟘 ∷ row) G) ≡ 𝟘 ∷ times K n m G
  unfolding times zip
  times_shift n [] G = refl
  times_shift n (x ∷ m) [] = refl
  times_shift n (x ∷ m) (row ∷ G) =
      ap (λ v. (K.◌*◌ x 𝟘 ∷ x ⊛ row) ⊕ v) (times_shift n m G) ∙ ap (λ y. y ∷ (x ⊛ row ⊕ times K n m G)) (K.add-zero (K.◌*◌ x 𝟘) ∙ mul-zero K x)

  -- m I = m
  pub times_identity : (n : ℕ) (m : List R) → length m ≡ n → times K n m (identity K n) ≡ m
  unfolding times identity row zip
  times_identity zero [] e = refl
  times_identity zero (x ∷ m) e = absurd (omega arith)
  times_identity (suc n) [] e = absurd (omega arith)
  times_identity (suc n) (x ∷ m) e =
      ap (times K (suc n) (x ∷ m)) (identity_suc n)
      ∙ ap (λ v. (K.◌*◌ x 𝟙 ∷ x ⊛ zeros n) ⊕ v) (times_shift n m (identity K n) ∙ ap (λ v. 𝟘 ∷ v) (times_identity n m (suc_inj e)))
      ∙ ap₂ ◌∷◌ (K.add-zero (K.◌*◌ x 𝟙) ∙ K.mul-one x) (ap (λ v. v ⊕ m) (multiple_zeros K x n) ∙ zeros_sum K n m (suc_inj e))

  -- A I = A
  pub product_identity : (n : ℕ) (A : List (List R)) → Wide n A → product K n A (identity K n) ≡ A
  unfolding product
  product_identity n [] w = refl
  product_identity n (row ∷ A) w = ap₂ ◌∷◌ (times_identity n row w.0) (product_identity n A w.1)

  -- a zero before each row of A: the first row of M does not count
  product_shift : (n : ℕ) (A : List (List R)) (row : List R) (M : List (List R)) → length row ≡ n → Wide n M
      → product K n (map (λ v. 𝟘 ∷ v) A) (row ∷ M) ≡ product K n A M
  unfolding product times
  product_shift n [] row M e w = refl
  product_shift n (v ∷ A) row M e w =
      ap₂ ◌∷◌
      (ap (λ u. u ⊕ times K n v M) (zero_multiple row ∙ ap zeros e) ∙ zeros_sum K n (times K n v M) (length_times K n v M w))
      (product_shift n A row M e w)

  -- I M = M
  pub identity_product : (n k : ℕ) (M : List (List R)) → length M ≡ k → Wide n M → product K n (identity K k) M ≡ M
  unfolding identity row product times
  identity_product n zero [] e w = refl
  identity_product n zero (row ∷ M) e w = absurd (omega arith)
  identity_product n (suc k) [] e w = absurd (omega arith)
  identity_product n (suc k) (row ∷ M) e w =
      ap (λ I. product K n I (row ∷ M)) (identity_suc k)
      ∙ ap₂ ◌∷◌
      (ap₂ ◌⊕◌ (multiple_one K row) (times_zeros n k M w.1) ∙ sum_zeros K n row w.0)
      (product_shift n (identity K k) row M w.0 w.1 ∙ identity_product n k M (suc_inj e) w.1)

  -- (A B) M = A (B M)
  pub product_assoc : (n k : ℕ) (A B M : List (List R)) → Wide k B → Wide n M → product K n (product K k A B) M ≡ product K n A (product K n B M)
  unfolding product
  product_assoc n k [] B M w v = refl
  product_assoc n k (row ∷ A) B M w v = ap₂ ◌∷◌ (times_product n k row B M w v) (product_assoc n k A B M w v)

  -- m (c M) = c (m M)
  times_scaled : (n : ℕ) (c : R) (m : List R) (M : List (List R)) → times K n m (map (◌⊛◌ c) M) ≡ c ⊛ times K n m M
  unfolding times
  times_scaled n c [] M = sym (multiple_zeros K c n)
  times_scaled n c (x ∷ m) [] = sym (multiple_zeros K c n)
  times_scaled n c (x ∷ m) (row ∷ M) =
      ap₂ ◌⊕◌ (sym (multiple_multiple K x c row) ∙ ap (λ a. a ⊛ row) (K.mul_comm x c) ∙ multiple_multiple K c x row) (times_scaled n c m M)
      ∙ sym (multiple_sum K c (x ⊛ row) (times K n m M))

  -- A (c M) = c (A M)
  pub product_scaled : (n : ℕ) (c : R) (A M : List (List R)) → product K n A (map (◌⊛◌ c) M) ≡ map (◌⊛◌ c) (product K n A M)
  unfolding product
  product_scaled n c [] M = refl
  product_scaled n c (v ∷ A) M = ap₂ ◌∷◌ (times_scaled n c v M) (product_scaled n c A M)

  -- an inverse on the left is the inverse on the right
  pub same : (k : ℕ) (L A M : List (List R)) → Square k L → Square k A → Square k M
      → product K k L A ≡ identity K k → product K k A M ≡ identity K k → L ≡ M
  same k L A M l a m e f =
      sym (product_identity k L l.wide) ∙ ap (product K k L) (sym f) ∙ sym (product_assoc k k L A M a.wide m.wide)
      ∙ ap (λ I. product K k I M) e ∙ identity_product k k M m.rows m.wide

  -- m A = b has the solution m = b M, and no other
  pub solved : (k : ℕ) (A M : List (List R)) → Square k A → Inverse K k A M → (m b : List R) → length m ≡ k → length b ≡ k
      → (times K k m A ≡ b) ↔ (m ≡ times K k b M)
  solved k A M s i m b l h = (
    λ e. sym (back A M s i.square i.right m l) ∙ ap (λ v. times K k v M) e,
    λ e. ap (λ v. times K k v A) e ∙ back M A i.square s i.left b h,
  )
    where
      back : (A M : List (List R)) → Square k A → Square k M → product K k A M ≡ identity K k → (m : List R) → length m ≡ k
          → times K k (times K k m A) M ≡ m
      back A M s t e m l = times_product k k m A M s.wide t.wide ∙ ap (times K k m) e ∙ times_identity k m l
