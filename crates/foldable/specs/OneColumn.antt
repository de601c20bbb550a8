-- The code on any one of its columns: one place of each base block. Assumes nothing.
use Rattle.std.specs.Prelude.{◌≡◌, refl, ℕ, zero, suc, ◌+◌, ◌*◌, ◌^◌, ◌<◌, length, get_or}
use Rattle.std.proofs.Common.{sym, ap₂, ◌∙◌, mul-one, one-mul, arith}
use Rattle.std.proofs.Math.Path.{ap}
use mathlib.Core.List.{List, [], ◌∷◌, ◌++◌, map}
use Rattle.std.proofs.Math.Nat.{zero-mul, add-zero, two-pow-succ}
use Rattle.std.proofs.Math.ListN.{length-map}
use Rattle.std.proofs.lemmas.List.{get_or-replicate}
use Rattle.algebra.specs.Field.{Field}
use Rattle.algebra.specs.Lists.{row, length_row, get_or_row, zip, length_zip, get_or_zip, differ_at, differ_of}
use Rattle.algebra.specs.Vector.{length_butterfly, get_or_multiple, vectors}
use Rattle.algebra.specs.Matrix.{Wide, wide_map, times, length_times}
use Rattle.foldable.specs.Code.{Code, size, dim, generator, encode, Legal}
use Rattle.foldable.specs.Encode.{message_halves, below, length_encode, encode_halves}
use Rattle.foldable.specs.Every.{every, place_within, every_append, every_zip}

module _ (F : Field) (C : Code F) (j : ℕ) where
  open F use {ring as K}
  open K use {R, 𝟘}
  open C use {n₀, G₀, T, T'}

  -- place j of each base block of a block of level i
  abbrev pub one_column : ℕ → List R → List R
  one_column i w = every 𝟘 n₀ j (2 ^ i) w

  -- the code that has only these
  abbrev pub column_code : Code F
  column_code = record { n₀ = 1; G₀ = map (λ row. get_or row j 𝟘 ∷ []) G₀; T = λ i. one_column i (T i); T' = λ i. one_column i (T' i) }

module _ (F : Field) (C : Code F) (j : ℕ) (within : j < C.n₀) where
  infixl 66 ◌⊕◌
  infixl 70 ◌⊙◌
  open F use {ring as K}
  open K use {R, 𝟘}
  open vectors K use {◌⊕◌, ◌⊙◌}
  open C use {n₀, G₀, T, T'}

  pub legal_column : (d : ℕ) → Legal F C d → Legal F (column_code F C j) d
  legal_column d 𝓛 =
      record {
        base = wide_map n₀ 1 (λ row. get_or row j 𝟘 ∷ []) (λ row e. refl) G₀ 𝓛.base;
        first = λ i h. length_row (2 ^ i) _ ∙ sym (one-mul (2 ^ i));
        second = λ i h. length_row (2 ^ i) _ ∙ sym (one-mul (2 ^ i));
        apart = λ i h. differ_of 𝟘 (one_column F C j i (T i)) (one_column F C j i (T' i)) (λ k l m e. let low : k < 2 ^ i = omega (arith, length_row (2 ^ i) (λ k. get_or (T i) (j + k * n₀) 𝟘)) in
            let there = place_within n₀ (2 ^ i) j k within low in
            differ_at 𝟘 (T i) (T' i) (𝓛.apart i h) (j + k * n₀) (omega (arith, 𝓛.first i h)) (omega (arith, 𝓛.second i h))
            (sym (get_or_row (2 ^ i) _ k 𝟘 low) ∙ e ∙ get_or_row (2 ^ i) _ k 𝟘 low));
      }

  -- place j of a vector times a matrix
  column_times : (m : List R) (G : List (List R)) → Wide n₀ G → get_or (times K n₀ m G) j 𝟘 ∷ [] ≡ times K 1 m (map (λ row. get_or row j 𝟘 ∷ []) G)
  unfolding times zip
  column_times [] G w = ap (λ x. x ∷ []) (get_or-replicate n₀ j 𝟘 𝟘 within)
  column_times (x ∷ m) [] w = ap (λ x. x ∷ []) (get_or-replicate n₀ j 𝟘 𝟘 within)
  column_times (x ∷ m) (row ∷ G) w =
      ap (λ y. y ∷ [])
      (get_or_zip K.◌+◌ (map (K.◌*◌ x) row) (times K n₀ m G) 𝟘 𝟘 𝟘 j (omega (arith, length-map row (K.◌*◌ x), w.0)) (omega (arith, length_times K n₀ m G w.1))
      ∙ ap (λ y. K.◌+◌ y (get_or (times K n₀ m G) j 𝟘)) (get_or_multiple K x row j))
      ∙ ap (λ v. (K.◌*◌ x (get_or row j 𝟘) ∷ []) ⊕ v) (column_times m G w.1)

  column_base : (m : List R) → Wide n₀ G₀ → one_column F C j 0 (encode F C 0 m) ≡ encode F (column_code F C j) 0 m
  unfolding row encode generator
  column_base m w = rw (mul-one n₀, zero-mul n₀, add-zero j) (column_times m G₀ w)

  column_half : (i : ℕ) (l t r : List R) → length l ≡ size F C i → length t ≡ size F C i → length r ≡ size F C i
      → one_column F C j i (l ⊕ t ⊙ r) ≡ one_column F C j i l ⊕ one_column F C j i t ⊙ one_column F C j i r
  column_half i l t r p q s =
      every_zip 𝟘 K.◌+◌ n₀ j (2 ^ i) l (t ⊙ r) within p (length_zip K.◌*◌ t r _ q s)
      ∙ ap (λ v. one_column F C j i l ⊕ v) (every_zip 𝟘 K.◌*◌ n₀ j (2 ^ i) t r within q s)

  -- a codeword on this column is the codeword of the same message
  pub one_column_encode : (i : ℕ) → Legal F C i → (m : List R) → length m ≡ dim F C i → one_column F C j i (encode F C i m) ≡ encode F (column_code F C j) i m
  one_column_encode zero 𝓛 m e = column_base m 𝓛.base
  one_column_encode (suc i) 𝓛 m e =
      let h = message_halves F C i m e in
      let L = encode F C i h.left in
      let S = encode F C i h.right in
      let long : (x : List R) → length (encode F C i x) ≡ size F C i = length_encode F C i (below F C i 𝓛) in
      let t : length (T i) ≡ size F C i = 𝓛.first i (omega arith) in
      let t' : length (T' i) ≡ size F C i = 𝓛.second i (omega arith) in
      let same : length (map (λ row. get_or row j 𝟘 ∷ []) G₀) ≡ length G₀ = length-map G₀ _ in
      ap (λ x. one_column F C j (suc i) (encode F C (suc i) x)) (sym h.whole)
      ∙ ap₂ (λ b w. every 𝟘 n₀ j b w) (two-pow-succ i) (encode_halves F C i 𝓛 h.left h.right h.length_left)
      ∙ every_append 𝟘 n₀ j (2 ^ i) (2 ^ i) (L ⊕ T i ⊙ S) (L ⊕ T' i ⊙ S) within
      (length_butterfly K _ L (T i) S (long h.left) t (long h.right))
      ∙ ap₂ ◌++◌ (column_half i L (T i) S (long h.left) t (long h.right)) (column_half i L (T' i) S (long h.left) t' (long h.right))
      ∙ ap₂ (λ u v. (u ⊕ one_column F C j i (T i) ⊙ v) ++ (u ⊕ one_column F C j i (T' i) ⊙ v))
      (one_column_encode i (below F C i 𝓛) h.left h.length_left) (one_column_encode i (below F C i 𝓛) h.right h.length_right)
      ∙ sym (encode_halves F (column_code F C j) i (legal_column (suc i) 𝓛) h.left h.right (h.length_left ∙ ap (λ x. x * 2 ^ i) (sym same)))
      ∙ ap (encode F (column_code F C j) (suc i)) h.whole
