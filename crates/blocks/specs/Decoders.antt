-- A base matrix of k rows whose first k columns have an inverse: codewords of every level are decoded by it. Assumes nothing.
use Rattle.std.specs.Prelude.{◌≡◌, refl, ◌↔◌, ℕ, ◌≤◌, length, take}
use Rattle.std.proofs.Math.Path.{sym, ap}
use Rattle.std.proofs.Common.{◌∙◌, arith, length-take}
use mathlib.Core.List.{List, map}
use Rattle.std.proofs.Math.Nat.{mul-one}
use Rattle.std.proofs.lemmas.List.{length-map}
use Rattle.algebra.specs.Field.{Field}
use Rattle.algebra.specs.Matrix.{Wide, wide_map, times, length_times}
use Rattle.foldable.specs.Code.{Code, generator, encode, Legal}
use Rattle.foldable.specs.Unique.{Unique}
use Rattle.foldable.specs.Decode.{Decoder, unique_decoded}
use Rattle.determinant.specs.Inverse.{Square, Inverse, Singular}
use Rattle.determinant.specs.Determinant.{det}
use Rattle.determinant.specs.Products.{solved}
use Rattle.determinant.specs.Exactly.{singular_exactly}

module _ (F : Field) (C : Code F) (k : ℕ) (count : length C.G₀ ≡ k) (few : k ≤ C.n₀) where
  open F use {ring as K}
  open K use {R, 𝟘}
  open C use {n₀, G₀}

  module _ (base : Wide n₀ G₀) where
    square : Square k (map (take k) G₀)
    square = record {
      rows = length-map G₀ (take k) ∙ count;
      wide = wide_map n₀ k (take k) (λ row e. length-take k row ∙ omega arith) G₀ base;
    }

    -- the first k columns of the base matrix have no inverse exactly when their determinant is 0
    pub singular_first : (det K k (map (take k) G₀) ≡ 𝟘) ↔ Singular K k (map (take k) G₀)
    singular_first = singular_exactly F k _ square

    -- a base block is decoded by its first k words times M
    pub inverse_decoder : (M : List (List R)) → Inverse K k (map (take k) G₀) M → Decoder F C k (λ w. times K k w M)
    unfolding encode generator
    inverse_decoder M 𝓘 =
        let A = map (take k) G₀ in
        let whole = mul-one (length A) ∙ square.rows in
        record {
          few = few;
          length_base = λ v e. length_times K k v M 𝓘.square.wide ∙ sym whole;
          base_encode =
              λ m e. ap (λ n. times K k (times K n m A) M) (mul-one k)
              ∙ sym ((solved K k A M square 𝓘 m _ (e ∙ whole) (length_times K k m A square.wide)).0 refl);
        }

  module _ (M : List (List R)) (𝓘 : Inverse K k (map (take k) G₀) M) (d : ℕ) (𝓛 : Legal F C d) where
    -- so a codeword of any level has one message
    pub unique_inverse : Unique F C d
    unique_inverse = unique_decoded F C k _ (inverse_decoder 𝓛.base M 𝓘) d 𝓛
