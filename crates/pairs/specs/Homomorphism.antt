-- A homomorphism of fields takes differences, inverses, lines, codewords and folds to those of the images. Assumes nothing.
use Rattle.std.specs.Prelude.{◌≡◌, refl, List, [], ◌∷◌, map, length, get_or}
use Rattle.std.proofs.Common.{sym, ap, ◌∙◌, map-id}
use Rattle.std.proofs.Math.Path.{fun_ext}
use Prim.Native.Nat.{ℕ, zero, suc}
use Rattle.std.proofs.Math.ListN.{get_or-map}
use Rattle.algebra.specs.Ring.{cancel_left, neg_unique}
use Rattle.algebra.specs.Field.{Field, inverse_unique}
use Rattle.algebra.specs.Numerals.{num}
use Rattle.algebra.specs.Algebra.{algebra, quote, from₂}
use Rattle.foldable.specs.Code.{Code, size, line, encode, fold, Legal}
use Rattle.foldable.specs.Line.{unit_difference}
use Rattle.pairs.specs.Pair.{extend}
use Rattle.pairs.specs.Linear.{Embedding, Linear, line_linear, encode_linear, fold_linear}

-- a field in itself, and a code taken into its own field
pub plain : (F : Field) → Embedding F F (λ s. s)
plain F = record { injective = λ s t e. e; product = λ s t. refl }

pub plain_code : (F : Field) (C : Code F) → extend F F (λ s. s) C ≡ C
plain_code F C = λ k. record { n₀ = C.n₀; G₀ = (ap (λ f. map f C.G₀) (fun_ext map-id) ∙ map-id C.G₀) k; T = λ i. map-id (C.T i) k; T' = λ i. map-id (C.T' i) k }

-- ι takes 1 to 1, sums to sums, and products to products
pub record Homomorphism (F E : Field) (ι : F.ring.R → E.ring.R) : Type 0 where
  pub one : ι F.ring.𝟙 ≡ E.ring.𝟙
  pub sum : (s t : F.ring.R) → ι (F.ring.◌+◌ s t) ≡ E.ring.◌+◌ (ι s) (ι t)
  pub product : (s t : F.ring.R) → ι (F.ring.◌*◌ s t) ≡ E.ring.◌*◌ (ι s) (ι t)

module _ (F E : Field) (ι : F.ring.R → E.ring.R) (𝓗 : Homomorphism F E ι) where
  infixl 65 ◌-◌
  infixl 65 ◌⊞◌
  infixl 65 ◌⊟◌
  infixl 70 ◌⊠◌
  open F use {ring as K, inv}
  open E use {ring as L}
  open K use {R, ◌-◌, neg, 𝟘, 𝟙}
  open L use {◌+◌ as ◌⊞◌, ◌*◌ as ◌⊠◌, ◌-◌ as ◌⊟◌, 𝟘 as 𝟘ᴱ, 𝟙 as 𝟙ᴱ}

  pub zero_image : ι 𝟘 ≡ 𝟘ᴱ
  zero_image = cancel_left L (ι 𝟘) (ι 𝟘) 𝟘ᴱ (sym (𝓗.sum 𝟘 𝟘) ∙ ap ι (K.add-zero 𝟘) ∙ sym (L.add-zero (ι 𝟘)))

  neg_image : (s : R) → ι (neg s) ≡ L.neg (ι s)
  neg_image s = neg_unique L (ι s) (ι (neg s)) (sym (𝓗.sum s (neg s)) ∙ ap ι (K.add_neg s) ∙ zero_image)

  pub difference_image : (s t : R) → ι (s - t) ≡ ι s ⊟ ι t
  difference_image s t = ap ι (K.sub_def s t) ∙ 𝓗.sum s (neg t) ∙ ap (◌⊞◌ (ι s)) (neg_image t) ∙ sym (L.sub_def (ι s) (ι t))

  pub inverse_image : (s : R) → (s ≡ 𝟘 → ⊥) → ι (inv s) ≡ E.inv (ι s)
  inverse_image s h = inverse_unique E (ι s) (ι (inv s)) (sym (𝓗.product s (inv s)) ∙ ap ι (F.mul_inv s h) ∙ 𝓗.one)

  pub num_image : (n : ℕ) → ι (num K n) ≡ num L n
  unfolding num
  num_image zero = zero_image
  num_image (suc n) = 𝓗.sum (num K n) 𝟙 ∙ λ k. num_image n k ⊞ 𝓗.one k

  -- the default of a list is taken to the default
  pub get_or_image : (l : List R) (j : ℕ) → ι (get_or l j 𝟘) ≡ get_or (map ι l) j 𝟘ᴱ
  get_or_image l j = sym (get_or-map ι l j 𝟘) ∙ ap (get_or (map ι l) j) zero_image

  -- what has an inverse is not taken to 0, so different elements have different images
  pub injective : (s t : R) → ι s ≡ ι t → s ≡ t
  injective s t e = go (F.eq? s t)
    where
      go : Dec (s ≡ t) → s ≡ t
      go (yes p) = p
      go (no n) =
          let x = ι (inv (t - s)) in
          let unit : (ι t ⊟ ι s) ⊠ x ≡ 𝟙ᴱ =
          ap (λ d. d ⊠ x) (sym (difference_image t s)) ∙ sym (𝓗.product (t - s) (inv (t - s))) ∙ ap ι (unit_difference F n) ∙ 𝓗.one in
          absurd (E.apart (from₂ L x e 𝟙ᴱ unit (algebra L (ι s ∷ ι t ∷ x ∷ []) (search quote depth 20) refl)))

  pub embedding : Embedding F E ι
  embedding = record { injective = injective; product = 𝓗.product }

  linear : Linear F F E (λ s. s) ι ι
  linear = record { source = plain F; target = embedding; none = zero_image; sum = 𝓗.sum; multiple = 𝓗.product }

  pub line_image : (a t t' u v : R) → (t ≡ t' → ⊥) → ι (line F a t t' u v) ≡ line E (ι a) (ι t) (ι t') (ι u) (ι v)
  line_image a t t' u v h = line_linear F F E (λ s. s) ι ι linear a t t' h u v

  module _ (C : Code F) (i : ℕ) where
    pub encode_image : (m : List R) → map ι (encode F C i m) ≡ encode E (extend F E ι C) i (map ι m)
    encode_image m = ap (λ B. map ι (encode F B i m)) (sym (plain_code F C)) ∙ encode_linear F F E (λ s. s) ι ι linear C i m

    pub fold_image : Legal F C (suc i) → (a : R) (w : List R) → length w ≡ size F C (suc i) → map ι (fold F C i a w) ≡ fold E (extend F E ι C) i (ι a) (map ι w)
    fold_image 𝓛 a w e = ap (λ B. map ι (fold F B i a w)) (sym (plain_code F C)) ∙ fold_linear F F E (λ s. s) ι ι linear C i 𝓛 a w e
