-- A code taken into two larger fields, and a map from one to the other that is linear over the code's field: it takes codewords to codewords, and folds to folds. Assumes nothing.
use Rattle.std.specs.Prelude.{◌≡◌, length, replicate}
use Rattle.std.proofs.Math.Path.{refl, sym, ap, ap₂}
use Rattle.std.proofs.Common.{◌∙◌, arith}
use mathlib.Core.List.{List, [], ◌∷◌, ◌++◌, map, map-append}
use Prim.Native.Nat.{ℕ, zero, suc}
use Rattle.std.proofs.lemmas.List.{length-map}
use Rattle.algebra.specs.Field.{Field}
use Rattle.algebra.specs.Lists.{zip, zip₄, Differ}
use Rattle.algebra.specs.Matrix.{wide_map, block, diagonal_matrix, times}
use Rattle.foldable.specs.Code.{Code, size, line, slope, generator, encode, fold, Legal}
use Rattle.foldable.specs.Encode.{block_halves}
use Rattle.foldable.specs.Line.{line_through, line_first, line_second, line_slope}
use Rattle.foldable.specs.Fold.{fold_halves}
use Rattle.pairs.specs.Pair.{extend}

map_zip : {A B : Type 0} (h : A → B) (f : A → A → A) (g : B → B → B) → ((x y : A) → h (f x y) ≡ g (h x) (h y))
    → (xs ys : List A) → map h (zip f xs ys) ≡ zip g (map h xs) (map h ys)
unfolding zip
map_zip h f g e [] ys = refl
map_zip h f g e (x ∷ xs) [] = refl
map_zip h f g e (x ∷ xs) (y ∷ ys) = ap₂ ◌∷◌ (e x y) (map_zip h f g e xs ys)

-- ι takes no two elements of F to one of E, and products to products
pub record Embedding (F E : Field) (ι : F.ring.R → E.ring.R) : Type 0 where
  pub injective : (s t : F.ring.R) → ι s ≡ ι t → s ≡ t
  pub product : (s t : F.ring.R) → ι (F.ring.◌*◌ s t) ≡ E.ring.◌*◌ (ι s) (ι t)

module _ (F E : Field) (ι : F.ring.R → E.ring.R) (𝓔 : Embedding F E ι) where
  differ : (v w : List F.ring.R) → Differ v w → Differ (map ι v) (map ι w)
  differ [] w h = tt
  differ (x ∷ v) [] h = tt
  differ (x ∷ v) (y ∷ w) h = (λ e. h.0 (𝓔.injective x y e), differ v w h.1)

  diagonals : (G : List (List F.ring.R)) (t : List F.ring.R) → map (map ι) (diagonal_matrix F.ring G t) ≡ diagonal_matrix E.ring (map (map ι) G) (map ι t)
  diagonals [] t = refl
  diagonals (row ∷ G) t = ap₂ ◌∷◌ (map_zip ι F.ring.◌*◌ E.ring.◌*◌ 𝓔.product t row) (diagonals G t)

  module _ (C : Code F) where
    pub legal : (d : ℕ) → Legal F C d → Legal E (extend F E ι C) d
    legal d 𝓛 =
        record {
          base = wide_map C.n₀ C.n₀ (map ι) (λ row e. length-map row ι ∙ e) C.G₀ 𝓛.base;
          first = λ i h. length-map (C.T i) ι ∙ 𝓛.first i h;
          second = λ i h. length-map (C.T' i) ι ∙ 𝓛.second i h;
          apart = λ i h. differ (C.T i) (C.T' i) (𝓛.apart i h);
        }

    generators : (i : ℕ) → generator E (extend F E ι C) i ≡ map (map ι) (generator F C i)
    unfolding generator block
    generators zero = refl
    generators (suc i) =
        let G = generator F C i in
        let D = diagonal_matrix F.ring G (C.T i) in
        let D' = diagonal_matrix F.ring G (C.T' i) in
        let beside : (A B : List (List F.ring.R)) → map (map ι) (zip ◌++◌ A B) ≡ zip ◌++◌ (map (map ι) A) (map (map ι) B) =
        map_zip (map ι) ◌++◌ ◌++◌ (map-append ι) in
        ap (λ M. zip ◌++◌ M M ++ zip ◌++◌ (diagonal_matrix E.ring M (map ι (C.T i))) (diagonal_matrix E.ring M (map ι (C.T' i)))) (generators i)
        ∙ sym (map-append (map ι) (zip ◌++◌ G G) (zip ◌++◌ D D')
        ∙ ap₂ ◌++◌ (beside G G) (beside D D' ∙ ap₂ (zip ◌++◌) (diagonals G (C.T i)) (diagonals G (C.T' i))))

-- φ : L → K takes sums to sums, and multiples by an element of F, which is α s in L and β s in K, to multiples
pub record Linear (F L K : Field) (α : F.ring.R → L.ring.R) (β : F.ring.R → K.ring.R) (φ : L.ring.R → K.ring.R) : Type 0 where
  pub source : Embedding F L α
  pub target : Embedding F K β
  pub none : φ L.ring.𝟘 ≡ K.ring.𝟘
  pub sum : (x y : L.ring.R) → φ (L.ring.◌+◌ x y) ≡ K.ring.◌+◌ (φ x) (φ y)
  pub multiple : (s : F.ring.R) (x : L.ring.R) → φ (L.ring.◌*◌ (α s) x) ≡ K.ring.◌*◌ (β s) (φ x)

module _ (F L K : Field) (α : F.ring.R → L.ring.R) (β : F.ring.R → K.ring.R) (φ : L.ring.R → K.ring.R) (𝓛 : Linear F L K α β φ) where
  infixl 65 ◌+◌
  infixl 70 ◌*◌
  infixl 65 ◌⊞◌
  infixl 70 ◌⊠◌
  open L.ring use {◌+◌, ◌*◌, 𝟘}
  open K.ring use {◌+◌ as ◌⊞◌, ◌*◌ as ◌⊠◌}

  zeros_linear : (n : ℕ) → map φ (replicate n 𝟘) ≡ replicate n K.ring.𝟘
  zeros_linear zero = refl
  zeros_linear (suc n) = ap₂ ◌∷◌ 𝓛.none (zeros_linear n)

  row_linear : (x : L.ring.R) (row : List F.ring.R) → map φ (map (◌*◌ x) (map α row)) ≡ map (◌⊠◌ (φ x)) (map β row)
  row_linear x [] = refl
  row_linear x (s ∷ row) =
      ap₂ ◌∷◌ (ap φ (L.ring.mul_comm x (α s)) ∙ 𝓛.multiple s x ∙ K.ring.mul_comm (β s) (φ x)) (row_linear x row)

  times_linear : (n : ℕ) (m : List L.ring.R) (G : List (List F.ring.R))
      → map φ (times L.ring n m (map (map α) G)) ≡ times K.ring n (map φ m) (map (map β) G)
  unfolding times
  times_linear n [] G = zeros_linear n
  times_linear n (x ∷ m) [] = zeros_linear n
  times_linear n (x ∷ m) (row ∷ G) =
      map_zip φ ◌+◌ ◌⊞◌ 𝓛.sum (map (◌*◌ x) (map α row)) (times L.ring n m (map (map α) G))
      ∙ ap₂ (zip ◌⊞◌) (row_linear x row) (times_linear n m G)

  -- by the line's value at 0 and its slope
  pub line_linear : (a t t' : F.ring.R) → (t ≡ t' → ⊥) → (u v : L.ring.R) → φ (line L (α a) (α t) (α t') u v) ≡ line K (β a) (β t) (β t') (φ u) (φ v)
  line_linear a t t' h u v =
      let l = line L 𝟘 (α t) (α t') u v in
      let r = slope L (α t) (α t') u v in
      let at : (s : F.ring.R) → φ (line L (α s) (α t) (α t') u v) ≡ φ l ⊞ β s ⊠ φ r =
      λ s. ap φ (line_slope L (α s) (α t) (α t') u v) ∙ 𝓛.sum l (α s * r) ∙ ap (◌⊞◌ (φ l)) (𝓛.multiple s r) in
      at a
      ∙ sym (line_through K (β a) (β t) (β t') (φ l) (φ r) (λ e. h (𝓛.target.injective t t' e)))
      ∙ ap₂ (line K (β a) (β t) (β t'))
      (sym (at t) ∙ ap φ (line_first L (α t) (α t') u v))
      (sym (at t') ∙ ap φ (line_second L (α t) (α t') u v (λ e. h (𝓛.source.injective t t' e))))

  lines_linear : (a : F.ring.R) (ts ts' : List F.ring.R) (us vs : List L.ring.R) → Differ ts ts'
      → map φ (zip₄ (line L (α a)) (map α ts) (map α ts') us vs) ≡ zip₄ (line K (β a)) (map β ts) (map β ts') (map φ us) (map φ vs)
  unfolding zip₄
  lines_linear a [] ts' us vs h = refl
  lines_linear a (t ∷ ts) [] us vs h = refl
  lines_linear a (t ∷ ts) (t' ∷ ts') [] vs h = refl
  lines_linear a (t ∷ ts) (t' ∷ ts') (u ∷ us) [] h = refl
  lines_linear a (t ∷ ts) (t' ∷ ts') (u ∷ us) (v ∷ vs) h = ap₂ ◌∷◌ (line_linear a t t' h.0 u v) (lines_linear a ts ts' us vs h.1)

  module _ (C : Code F) (i : ℕ) where
    pub encode_linear : (m : List L.ring.R) → map φ (encode L (extend F L α C) i m) ≡ encode K (extend F K β C) i (map φ m)
    unfolding encode
    encode_linear m =
        let n = size F C i in
        ap (λ G. map φ (times L.ring n m G)) (generators F L α 𝓛.source C i)
        ∙ times_linear n m (generator F C i)
        ∙ ap (times K.ring n (map φ m)) (sym (generators F K β 𝓛.target C i))

    pub fold_linear : Legal F C (suc i) → (a : F.ring.R) (w : List L.ring.R) → length w ≡ size F C (suc i)
        → map φ (fold L (extend F L α C) i (α a) w) ≡ fold K (extend F K β C) i (β a) (map φ w)
    fold_linear legal a w e =
        let h = block_halves L (extend F L α C) i w e in
        let l = h.left in
        let r = h.right in
        ap (λ x. map φ (fold L (extend F L α C) i (α a) x)) (sym h.whole)
        ∙ ap (map φ) (fold_halves L (extend F L α C) i (α a) l r h.length_left)
        ∙ lines_linear a (C.T i) (C.T' i) l r (legal.apart i (omega arith))
        ∙ sym (fold_halves K (extend F K β C) i (β a) (map φ l) (map φ r) (length-map l φ ∙ h.length_left))
        ∙ ap (fold K (extend F K β C) i (β a)) (sym (map-append φ l r) ∙ ap (map φ) h.whole)
