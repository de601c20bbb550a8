-- A homomorphism takes values of polynomials, sums over corners, and what an opening holds of them, to those of the images. Assumes nothing.
use Rattle.std.specs.Prelude.{◌≡◌, refl, get_or}
use Rattle.std.proofs.Common.{sym, ◌∙◌}
use Rattle.std.proofs.Math.Path.{ap, ap₂}
use mathlib.Core.List.{List, ◌∷◌, ◌++◌, map, map-append}
use Prim.Native.Nat.{ℕ, zero, suc, ◌+◌ as ◌+ℕ◌, ◌*◌ as ◌*ℕ◌, ◌-◌ as ◌-ℕ◌, ◌^◌}
use Rattle.std.proofs.Math.ListN.{drop}
use Rattle.std.proofs.lemmas.List.{length-map}
use Rattle.algebra.specs.Field.{Field}
use Rattle.algebra.specs.Lists.{map_drop, map_row, row_ext}
use Rattle.algebra.specs.Sums.{sum, prod}
use Rattle.algebra.specs.Bits.{bit, either}
use Rattle.multilinear.specs.Polynomial.{monomial, form, coefficient, poly, fixed}
use Rattle.multilinear.specs.Corners.{corner, over_corners, eq}
use Rattle.multilinear.specs.Quadratic.{through}
use Rattle.multilinear.specs.Rounds.{weighted, h, final, final_sum}
use Rattle.pairs.specs.Homomorphism.{Homomorphism, zero_image, difference_image, num_image, get_or_image}

map_either : {A B : Type 0} (f : A → B) (n : ℕ) (s t : A) → f (either n s t) ≡ either n (f s) (f t)
map_either f zero s t = refl
map_either f (suc n) s t = refl

module _ (F E : Field) (ι : F.ring.R → E.ring.R) (𝓗 : Homomorphism F E ι) where
  infixl 65 ◌+◌
  infixl 65 ◌-◌
  infixl 70 ◌*◌
  infixl 65 ◌⊞◌
  infixl 65 ◌⊟◌
  infixl 70 ◌⊠◌
  open F use {ring as K}
  open E use {ring as L}
  open K use {R, ◌+◌, ◌*◌, ◌-◌, 𝟘, 𝟙}
  open L use {R as S, ◌+◌ as ◌⊞◌, ◌*◌ as ◌⊠◌, ◌-◌ as ◌⊟◌, 𝟘 as 𝟘ᴱ, 𝟙 as 𝟙ᴱ}

  sum_image : (n : ℕ) (f : ℕ → R) (g : ℕ → S) → ((j : ℕ) → ι (f j) ≡ g j) → ι (sum K n f) ≡ sum L n g
  unfolding sum
  sum_image zero f g e = zero_image F E ι 𝓗
  sum_image (suc n) f g e = 𝓗.sum (sum K n f) (f n) ∙ ap₂ ◌⊞◌ (sum_image n f g e) (e n)

  prod_image : (n : ℕ) (f : ℕ → R) (g : ℕ → S) → ((j : ℕ) → ι (f j) ≡ g j) → ι (prod K n f) ≡ prod L n g
  unfolding prod
  prod_image zero f g e = 𝓗.one
  prod_image (suc n) f g e = 𝓗.product (prod K n f) (f n) ∙ ap₂ ◌⊠◌ (prod_image n f g e) (e n)

  monomial_image : (b : ℕ) (z : List R) → ι (monomial K b z) ≡ monomial L b (map ι z)
  unfolding monomial
  monomial_image b z =
      prod_image _ _ _ (λ i. map_either ι (bit b i) (get_or z i 𝟘) 𝟙 ∙ ap₂ (either (bit b i)) (get_or_image F E ι 𝓗 z i) 𝓗.one)
      ∙ ap (λ n. prod L n (λ i. either (bit b i) (get_or (map ι z) i 𝟘ᴱ) 𝟙ᴱ)) (sym (length-map z ι))

  form_image : (f : ℕ → R) (g : ℕ → S) → ((b : ℕ) → ι (f b) ≡ g b) → (z : List R) → ι (form K f z) ≡ form L g (map ι z)
  unfolding form
  form_image f g e z =
      sum_image _ _ _ (λ b. 𝓗.product (f b) (monomial K b z) ∙ ap₂ ◌⊠◌ (e b) (monomial_image b z))
      ∙ ap (λ n. sum L (2 ^ n) (λ b. g b ⊠ monomial L b (map ι z))) (sym (length-map z ι))

  pub poly_image : (m z : List R) → ι (poly K m z) ≡ poly L (map ι m) (map ι z)
  poly_image m z = form_image (coefficient K m) (coefficient L (map ι m)) (get_or_image F E ι 𝓗 m) z

  corner_image : (k b : ℕ) → map ι (corner K k b) ≡ corner L k b
  unfolding corner
  corner_image k b = map_row ι k _ ∙ row_ext k _ _ (λ i h. map_either ι (bit b i) 𝟙 𝟘 ∙ ap₂ (either (bit b i)) 𝓗.one (zero_image F E ι 𝓗))

  corners_image : (k : ℕ) (f : List R → R) (g : List S → S) → ((c : List R) → ι (f c) ≡ g (map ι c)) → ι (over_corners K k f) ≡ over_corners L k g
  unfolding over_corners
  corners_image k f g e = sum_image _ _ _ (λ b. e (corner K k b) ∙ ap g (corner_image k b))

  factor_image : (a b : R) → ι (a * b + (𝟙 - a) * (𝟙 - b)) ≡ ι a ⊠ ι b ⊞ (𝟙ᴱ ⊟ ι a) ⊠ (𝟙ᴱ ⊟ ι b)
  factor_image a b = simp (𝓗.sum, 𝓗.product, difference_image F E ι 𝓗, 𝓗.one)

  eq_image : (z x : List R) → ι (eq K z x) ≡ eq L (map ι z) (map ι x)
  unfolding eq
  eq_image z x =
      let factor : S → S → S = λ a b. a ⊠ b ⊞ (𝟙ᴱ ⊟ a) ⊠ (𝟙ᴱ ⊟ b) in
      prod_image _ _ _ (λ i. factor_image (get_or z i 𝟘) (get_or x i 𝟘) ∙ ap₂ factor (get_or_image F E ι 𝓗 z i) (get_or_image F E ι 𝓗 x i))
      ∙ ap (λ n. prod L n (λ i. factor (get_or (map ι z) i 𝟘ᴱ) (get_or (map ι x) i 𝟘ᴱ))) (sym (length-map z ι))

  pub through_image : (half a b c x : R) → ι (through K half a b c x) ≡ through L (ι half) (ι a) (ι b) (ι c) (ι x)
  unfolding through
  through_image half a b c x = simp (𝓗.sum, 𝓗.product, difference_image F E ι 𝓗, 𝓗.one, num_image F E ι 𝓗)

  module _ (low : ℕ) where
    pub h_image : (m z r : List R) (i : ℕ) (X : R) → ι (h K low m z r i X) ≡ h L low (map ι m) (map ι z) (map ι r) i (ι X)
    unfolding h
    h_image m z r i X =
        corners_image (low +ℕ i -ℕ 1) _ _
        (λ c. let x = c ++ X ∷ drop i r in
        𝓗.product (poly K m x) (eq K z x)
        ∙ ap₂ ◌⊠◌ (poly_image m x) (eq_image z x)
        ∙ ap (weighted L low (map ι m) (map ι z)) (map-append ι c (X ∷ drop i r) ∙ ap (λ l. map ι c ++ ι X ∷ l) (map_drop ι i r)))

    pub final_image : (m r : List R) → map ι (final K low m r) ≡ final L low (map ι m) (map ι r)
    unfolding final fixed
    final_image m r = map_row ι (2 ^ low) _ ∙ row_ext (2 ^ low) _ _ (λ a l. form_image _ _ (λ b. get_or_image F E ι 𝓗 m (a +ℕ 2 ^ low *ℕ b)) r)

    pub final_sum_image : (v z r : List R) → ι (final_sum K low v z r) ≡ final_sum L low (map ι v) (map ι z) (map ι r)
    unfolding final_sum
    final_sum_image v z r =
        corners_image low _ _
        (λ c. 𝓗.product (poly K v c) (eq K z (c ++ r)) ∙ ap₂ ◌⊠◌ (poly_image v c) (eq_image z (c ++ r) ∙ ap (eq L (map ι z)) (map-append ι c r)))
