-- A block is the codeword of a message exactly where its first half, with the right half of the message peeled off, is the codeword of the left half, and gives
-- its second half. Assumes nothing.
use Rattle.std.specs.Prelude.{◌≡◌, ◌↔◌, ℕ, suc, length, take, drop}
use Rattle.std.proofs.Math.Path.{refl, ap₂}
use Rattle.std.proofs.Common.{sym, ap, ◌∙◌, arith, take_at, drop_at}
use mathlib.Core.List.{List, [], ◌∷◌, ◌++◌}
use Rattle.std.proofs.Math.Nat.{suc_inj}
use Rattle.algebra.specs.Field.{Field}
use Rattle.algebra.specs.Algebra.{algebra, quote}
use Rattle.algebra.specs.Lists.{zip, length_zip}
use Rattle.algebra.specs.Vector.{vectors}
use Rattle.foldable.specs.Code.{Code, size, dim, encode, Legal}
use Rattle.foldable.specs.Encode.{below, length_encode, encode_halves}

module _ (F : Field) where
  infixl 65 ◌-◌
  infixl 66 ◌⊕◌
  infixl 70 ◌⊙◌
  open F use {ring as K}
  open K use {R, ◌+◌, ◌*◌, ◌-◌}
  open vectors K use {◌⊕◌, ◌⊙◌}

  -- u - t r
  abbrev pub peel : List R → List R → List R → List R
  peel u t r = zip ◌-◌ u (t ⊙ r)

  -- a sum and a difference undo each other
  sum_less : (l s : List R) → length l ≡ length s → zip ◌-◌ (l ⊕ s) s ≡ l
  unfolding zip
  sum_less [] s e = refl
  sum_less (x ∷ l) [] e = absurd (omega arith)
  sum_less (x ∷ l) (y ∷ s) e = ap₂ ◌∷◌ (algebra K (x ∷ y ∷ []) (search quote depth 20) refl) (sum_less l s (suc_inj e))

  less_sum : (u s : List R) → length u ≡ length s → zip ◌-◌ u s ⊕ s ≡ u
  unfolding zip
  less_sum [] s e = refl
  less_sum (x ∷ u) [] e = absurd (omega arith)
  less_sum (x ∷ u) (y ∷ s) e = ap₂ ◌∷◌ (algebra K (x ∷ y ∷ []) (search quote depth 20) refl) (less_sum u s (suc_inj e))

  module _ (C : Code F) (i : ℕ) (𝓛 : Legal F C (suc i)) where
    open C use {T, T'}

    module _ (l r u v : List R) (sized : length l ≡ dim F C i) (half : length u ≡ size F C i) where
      abbrev left : List R
      left = encode F C i l

      abbrev right : List R
      right = encode F C i r

      length_left : length left ≡ size F C i
      length_left = length_encode F C i (below F C i 𝓛) l

      first : length (T i) ≡ size F C i
      first = 𝓛.first i (omega arith)

      length_product : length (T i ⊙ right) ≡ size F C i
      length_product = length_zip ◌*◌ (T i) right (size F C i) first (length_encode F C i (below F C i 𝓛) r)

      length_sum : length (left ⊕ T i ⊙ right) ≡ length u
      length_sum = length_zip ◌+◌ left (T i ⊙ right) (size F C i) length_left length_product ∙ sym half

      -- Enc (l r) = u v exactly where Enc l = u - T Enc r and (u - T Enc r) + T' Enc r = v
      pub peel_encode : (encode F C (suc i) (l ++ r) ≡ u ++ v) ↔ ((left ≡ peel u (T i) right) × (peel u (T i) right ⊕ T' i ⊙ right ≡ v))
      peel_encode = (forth, back)
        where
          forth : encode F C (suc i) (l ++ r) ≡ u ++ v → (left ≡ peel u (T i) right) × (peel u (T i) right ⊕ T' i ⊙ right ≡ v)
          forth e =
              let h = sym (encode_halves F C i 𝓛 l r sized) ∙ e in
              let a : left ⊕ T i ⊙ right ≡ u = sym (take_at (left ⊕ T i ⊙ right) (left ⊕ T' i ⊙ right) (length u) length_sum) ∙ ap (take (length u)) h ∙ take_at u v (length u) refl in
              let b : left ⊕ T' i ⊙ right ≡ v = sym (drop_at (left ⊕ T i ⊙ right) (left ⊕ T' i ⊙ right) (length u) length_sum) ∙ ap (drop (length u)) h ∙ drop_at u v (length u) refl in
              let p : left ≡ peel u (T i) right = sym (sum_less left (T i ⊙ right) (length_left ∙ sym length_product)) ∙ ap (λ w. zip ◌-◌ w (T i ⊙ right)) a in
              (p, ap (λ w. w ⊕ T' i ⊙ right) (sym p) ∙ b)

          back : (left ≡ peel u (T i) right) × (peel u (T i) right ⊕ T' i ⊙ right ≡ v) → encode F C (suc i) (l ++ r) ≡ u ++ v
          back e =
              encode_halves F C i 𝓛 l r sized
              ∙ ap₂ ◌++◌ (ap (λ w. w ⊕ T i ⊙ right) e.0 ∙ less_sum u (T i ⊙ right) (half ∙ sym length_product)) (ap (λ w. w ⊕ T' i ⊙ right) e.0 ∙ e.1)
