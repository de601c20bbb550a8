-- A matrix times its adjugate is its determinant times the identity. Assumes nothing.
use Rattle.std.specs.Prelude.{◌≡◌, true, ◌⊎◌, length, replicate}
use Rattle.std.proofs.Math.Path.{refl, sym, ap, ap₂}
use Rattle.std.proofs.Common.{◌∙◌, inl, inr, zero-add, suc-add, arith}
use mathlib.Core.List.{List, [], ◌∷◌, map}
use Prim.Native.Nat.{ℕ, zero, suc, ◌+◌ as ◌+ℕ◌, ◌<◌}
use Rattle.std.proofs.Math.Nat.{suc_inj}
use Rattle.std.proofs.Math.Decide.{ℕ_discrete}
use Rattle.std.proofs.Math.ListN.{get_or}
use Rattle.algebra.specs.Ring.{Ring, one-mul, mul-zero, neg_mul}
use Rattle.algebra.specs.Algebra.{algebra, quote}
use Rattle.algebra.specs.Lists.{row, length_row, row_ext, row_get_or, map_row, zip, zip_row}
use Rattle.algebra.specs.Sums.{sum, sum_ext, sum_scale, sum_cons}
use Rattle.algebra.specs.Vector.{vectors}
use Rattle.algebra.specs.Matrix.{Wide, times}
use Rattle.determinant.specs.Inverse.{Square, product, diagonal, identity}
use Rattle.determinant.specs.Determinant.{without, minor, entry, sign, det, adjugate}
use Rattle.determinant.specs.Wedge.{wedges}
use Rattle.determinant.specs.Products.{on, off}
use Rattle.determinant.specs.Places.{length_without, wide_without, row_replicate, wide_row, wide_at}
use Rattle.determinant.specs.Expansion.{det_wedges, front, other}

module _ (K : Ring) where
  infixl 70 ◌*◌
  open K use {R, ◌+◌, ◌*◌, neg, 𝟘, 𝟙}
  open vectors K use {◌⊛◌}

  -- a row vector times the matrix of the entries m j c: in place c the sum over j
  pub times_row : (n k : ℕ) (v : List R) (m : ℕ → ℕ → R) → length v ≡ k
      → times K n v (row k (λ j. row n (m j))) ≡ row n (λ c. sum K k (λ j. get_or v j 𝟘 * m j c))
  unfolding times row sum
  times_row n zero [] m e = sym (row_replicate n 𝟘)
  times_row n zero (x ∷ v) m e = absurd (omega arith)
  times_row n (suc k) [] m e = absurd (omega arith)
  times_row n (suc k) (x ∷ v) m e =
      ap₂ (zip ◌+◌) (map_row (◌*◌ x) n (m 0)) (times_row n k v (λ j. m (suc j)) (suc_inj e)) ∙ zip_row ◌+◌ n _ _
      ∙ row_ext n _ _ (λ c h. sym (sum_cons K k (λ j. get_or (x ∷ v) j 𝟘 * m j c)))

  abbrev OnOrOff : ℕ → ℕ → Type 0
  OnOrOff i j = ((i ≡ j) × (diagonal K i j ≡ 𝟙)) ⊎ ((i ≡ j → ⊥) × (diagonal K i j ≡ 𝟘))

  on_or_off : (i j : ℕ) → OnOrOff i j
  on_or_off i j = go (ℕ_discrete i j)
    where
      go : Dec (i ≡ j) → OnOrOff i j
      go (yes e) = inl (e, ap (diagonal K i) (sym e) ∙ on K i)
      go (no n) = inr (n, off K i j n)

  sign_add : (i j : ℕ) → sign K (i +ℕ j) ≡ sign K i * sign K j
  unfolding sign
  sign_add zero j = ap (sign K) (zero-add j) ∙ sym (one-mul K _)
  sign_add (suc i) j = ap (sign K) (suc-add i j) ∙ ap neg (sign_add i j) ∙ sym (neg_mul K _ _)

  gather : (s t x d : R) → x * (s * t * d) ≡ s * (t * x * d)
  gather s t x d = algebra K (s ∷ t ∷ x ∷ d ∷ []) (search quote depth 20) refl

  -- row i times column c of the adjugate: row i in place of row c, expanded
  along : (k : ℕ) (A : List (List R)) → Square (suc k) A → (i c : ℕ) → i < suc k → c < suc k
      → sum K (suc k) (λ j. entry K A i j * (sign K (c +ℕ j) * det K k (minor c j A))) ≡ det K (suc k) A * diagonal K i c
  unfolding det without wedges
  along k A q i c h l =
      let v = get_or A i [] in
      let B = without c A in
      let wide : Wide (suc k) (v ∷ B) = (wide_at (suc k) A q.wide i (omega (arith, q.rows)), wide_without (suc k) c A q.wide) in
      sum_ext K (suc k) _ _ (λ j m. ap (λ s. entry K A i j * (s * det K k (minor c j A))) (sign_add c j) ∙ gather (sign K c) (sign K j) _ _)
      ∙ sum_scale K (suc k) (sign K c) _
      ∙ ap (λ x. sign K c * x) (det_wedges K (suc k) (v ∷ B) (ap suc (length_without c k A q.rows l)) wide) ∙ go (on_or_off i c)
    where
      go : OnOrOff i c → sign K c * wedges K (get_or A i [] ∷ without c A) (replicate (suc k) true) ≡ det K (suc k) A * diagonal K i c
      go (inl e) =
          ap (λ r. sign K c * wedges K (get_or A r [] ∷ without c A) (replicate (suc k) true)) e.0
          ∙ sym (det_wedges K (suc k) A q.rows q.wide ∙ front K (suc k) c A _ (omega (arith, q.rows)) q.wide)
          ∙ sym (K.mul-one _) ∙ ap (λ x. det K (suc k) A * x) (sym e.1)
      go (inr e) =
          ap (λ x. sign K c * x) (other K (suc k) i c A _ (omega (arith, q.rows)) e.0 q.wide)
          ∙ mul-zero K _ ∙ sym (mul-zero K _) ∙ ap (λ x. det K (suc k) A * x) (sym e.1)

  -- A adj(A) = det(A) I
  pub product_adjugate : (k : ℕ) (A : List (List R)) → Square k A → product K k A (adjugate K k A) ≡ map (◌⊛◌ (det K k A)) (identity K k)
  unfolding adjugate product identity row
  product_adjugate zero [] q = refl
  product_adjugate zero (v ∷ A) q = absurd (omega (arith, q.rows))
  product_adjugate (suc k) A q =
      let d = det K (suc k) A in
      let M = row (suc k) (λ j. row (suc k) (λ c. sign K (c +ℕ j) * det K k (minor c j A))) in
      ap (map (λ v. times K (suc k) v M)) (sym (ap (λ n. row n (λ i. get_or A i [])) (sym q.rows) ∙ row_get_or A []))
      ∙ map_row (λ v. times K (suc k) v M) (suc k) (λ i. get_or A i [])
      ∙ row_ext (suc k) _ _ (λ i h.
      times_row (suc k) (suc k) (get_or A i []) (λ j c. sign K (c +ℕ j) * det K k (minor c j A)) (wide_at (suc k) A q.wide i (omega (arith, q.rows)))
      ∙ row_ext (suc k) _ _ (λ c l. along k A q i c h l) ∙ sym (map_row (◌*◌ d) (suc k) (diagonal K i)))
      ∙ sym (map_row (◌⊛◌ d) (suc k) (λ i. row (suc k) (diagonal K i)))

  pub square_adjugate : (k : ℕ) (A : List (List R)) → Square k (adjugate K k A)
  unfolding adjugate
  square_adjugate zero A = record { rows = refl; wide = tt }
  square_adjugate (suc k) A = record { rows = length_row (suc k) _; wide = wide_row (suc k) (suc k) _ (λ j. length_row (suc k) _) }
