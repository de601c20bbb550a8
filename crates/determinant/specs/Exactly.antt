-- A square matrix over a field has an inverse exactly when its determinant is not 0, and then the adjugate divided by the determinant is the only
-- one. Assumes nothing.
use Rattle.std.specs.Prelude.{◌↔◌, ◌≡◌, refl, List, [], ◌∷◌, map, ℕ}
use Rattle.std.proofs.Common.{sym, ap₂, ◌∙◌}
use Rattle.std.proofs.Math.Path.{ap}
use Rattle.std.proofs.Math.ListN.{length-map}
use Rattle.algebra.specs.Ring.{zero-mul, mul-zero}
use Rattle.algebra.specs.Field.{Field}
use Rattle.algebra.specs.Vector.{vectors, multiple_one, multiple_multiple}
use Rattle.algebra.specs.Matrix.{wide_map}
use Rattle.determinant.specs.Inverse.{Square, product, identity, Inverse, Singular}
use Rattle.determinant.specs.Determinant.{det, adjugate, inverse}
use Rattle.determinant.specs.Products.{product_scaled, same}
use Rattle.determinant.specs.Multiplicative.{det_product, det_identity}
use Rattle.determinant.specs.Adjugate.{product_adjugate, square_adjugate}

module _ (F : Field) (k : ℕ) where
  infixl 70 ◌*◌
  infixr 71 ◌⊛◌
  open F use {ring as K, inv, eq?, apart, mul_inv}
  open K use {R, ◌*◌, 𝟘, 𝟙, mul_comm}
  open vectors K use {◌⊛◌}

  module _ (A M : List (List R)) (a : Square k A) (m : Square k M) (e : product K k A M ≡ identity K k) where
    units : det K k A * det K k M ≡ 𝟙
    units = sym (det_product K k A M a m) ∙ ap (det K k) e ∙ det_identity K k

    first_nonzero : det K k A ≡ 𝟘 → ⊥
    first_nonzero z = apart (sym (sym units ∙ ap (λ x. x * det K k M) z ∙ zero-mul K _))

    second_nonzero : det K k M ≡ 𝟘 → ⊥
    second_nonzero z = apart (sym (sym units ∙ ap (λ x. det K k A * x) z ∙ mul-zero K _))

  square_inverse : (A : List (List R)) → Square k (inverse F k A)
  unfolding inverse
  square_inverse A =
      let q = square_adjugate K k A in
      record { rows = length-map (adjugate K k A) _ ∙ q.rows; wide = wide_map k k _ (λ v e. length-map v _ ∙ e) (adjugate K k A) q.wide }

  divided : (c d : R) (A : List (List R)) → c * d ≡ 𝟙 → map (◌⊛◌ c) (map (◌⊛◌ d) A) ≡ A
  divided c d [] e = refl
  divided c d (v ∷ A) e = ap₂ ◌∷◌ (sym (multiple_multiple K c d v) ∙ ap (λ x. x ⊛ v) e ∙ multiple_one K v) (divided c d A e)

  product_inverse : (A : List (List R)) → Square k A → (det K k A ≡ 𝟘 → ⊥) → product K k A (inverse F k A) ≡ identity K k
  unfolding inverse
  product_inverse A a n =
      let d = det K k A in
      product_scaled K k (inv d) A (adjugate K k A) ∙ ap (map (◌⊛◌ (inv d))) (product_adjugate K k A a)
      ∙ divided (inv d) d (identity K k) (mul_comm (inv d) d ∙ mul_inv d n)

  -- one of the two products is enough
  pub from_right : (A M : List (List R)) → Square k A → Square k M → product K k A M ≡ identity K k → Inverse K k A M
  from_right A M a m e =
      let N = inverse F k M in
      let f : product K k M N ≡ identity K k = product_inverse M m (second_nonzero A M a m e) in
      record { square = m; right = e; left = ap (product K k M) (same K k A M N a m (square_inverse M) e f) ∙ f }

  pub from_left : (A M : List (List R)) → Square k A → Square k M → product K k M A ≡ identity K k → Inverse K k A M
  from_left A M a m e = let i = from_right M A m a e in record { square = m; right = i.left; left = e }

  -- where the determinant is not 0, the adjugate divided by it is an inverse, and there is no other
  pub invertible : (A : List (List R)) → Square k A → (det K k A ≡ 𝟘 → ⊥) → Inverse K k A (inverse F k A)
  invertible A a n = from_right A (inverse F k A) a (square_inverse A) (product_inverse A a n)

  pub unique : (A M : List (List R)) → Square k A → Inverse K k A M → M ≡ inverse F k A
  unique A M a i =
      same K k M A (inverse F k A) i.square a (square_inverse A) i.left (product_inverse A a (first_nonzero A M a i.square i.right))

  -- the determinant is 0 exactly when there is no inverse
  pub singular_exactly : (A : List (List R)) → Square k A → (det K k A ≡ 𝟘) ↔ Singular K k A
  singular_exactly A a = (λ z M i. first_nonzero A M a i.square i.right z, λ none. go none (eq? (det K k A) 𝟘))
    where
      go : Singular K k A → Dec (det K k A ≡ 𝟘) → det K k A ≡ 𝟘
      go none (yes z) = z
      go none (no n) = absurd (none (inverse F k A) (invertible A a n))

  -- so there is one exactly when the determinant is not 0
  pub invertible_exactly : (A : List (List R)) → Square k A → (det K k A ≡ 𝟘 → ⊥) ↔ ((M : List (List R)) × Inverse K k A M)
  invertible_exactly A a = (λ n. (inverse F k A, invertible A a n), λ i. first_nonzero A i.0 a i.1.square i.1.right)
