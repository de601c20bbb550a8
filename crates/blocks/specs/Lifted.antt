-- Encoding in two steps, over any base matrix: the base blocks, and then the levels above, in place. Assumes nothing.
use Rattle.std.specs.Prelude.{◌≡◌, drop}
use Rattle.std.proofs.Math.Path.{refl, sym, ap, ap₂}
use Rattle.std.proofs.Common.{◌∙◌, mul-zero, mul-suc, mul-add, mul-le-mul_left, length-drop, take_at, drop_at}
use mathlib.Core.List.{List, [], ◌∷◌, ◌++◌, append-nil, flat_map}
use Prim.Native.Nat.{ℕ, zero, suc, ◌+◌, ◌*◌, ◌^◌, ◌≤◌}
use Rattle.std.proofs.Math.Nat.{mul_comm, mul-one, two-pow-succ}
use native.Mathlib.Omega.{arith}
use Rattle.std.proofs.Math.ListN.{length, take}
use Rattle.std.proofs.lemmas.List.{length-map, take-append-le, drop-append-le}
use Rattle.std.proofs.Math.Seq.{take_all, drop-append-add}
use Rattle.algebra.specs.Field.{Field}
use Rattle.algebra.specs.Lists.{row, length_row, row_ext, row_append, flat_map_append, length_flat_map}
use Rattle.algebra.specs.Vector.{sum_zeros}
use Rattle.algebra.specs.Matrix.{times, length_times}
use Rattle.foldable.specs.Code.{Code, one_row, size, dim, generator, encode, Legal}
use Rattle.foldable.specs.Encode.{message_halves, below, encode_halves}
use Rattle.foldable.specs.Lift.{spread, butterfly, lift}
use Rattle.blocks.specs.Base.{base_messages, base_blocks}

-- the base messages of a message of two parts
messages_append : {A : Type 0} (k b c : ℕ) (l r : List A) → length l ≡ k * b → base_messages k (b + c) (l ++ r) ≡ base_messages k b l ++ base_messages k c r
unfolding base_messages
messages_append k b c l r e =
    row_append b c _
    ∙ ap₂ ◌++◌
    (row_ext b _ _ (λ j h.
    let le : k * j + k ≤ length l = omega (arith, mul-suc k j, mul-le-mul_left {m = suc j} {n = b} k h) in
    ap (take k) (drop-append-le (k * j) l r (omega arith)) ∙ take-append-le k (drop (k * j) l) r (omega (arith, length-drop (k * j) l))))
    (row_ext c _ _ (λ j h. ap (take k) (ap (λ n. drop n (l ++ r)) (mul-add k b j ∙ ap (λ n. n + k * j) (sym e)) ∙ drop-append-add l r (k * j))))

module _ (F : Field) (C : Code F) where
  open F use {ring as K}
  open K use {R}
  open C use {n₀, G₀}

  blocks_append : (b c : ℕ) (l r : List R) → length l ≡ length G₀ * b → base_blocks F C (b + c) (l ++ r) ≡ base_blocks F C b l ++ base_blocks F C c r
  unfolding base_blocks
  blocks_append b c l r e = ap (flat_map _) (messages_append (length G₀) b c l r e) ∙ flat_map_append _ (base_messages (length G₀) b l) (base_messages (length G₀) c r)

  pub length_blocks : (i : ℕ) → Legal F C i → (m : List R) → length (base_blocks F C (2 ^ i) m) ≡ size F C i
  unfolding base_blocks base_messages
  length_blocks i 𝓛 m = length_flat_map _ n₀ (λ v. length_times K n₀ v G₀ 𝓛.base) _ ∙ ap (λ b. b * n₀) (length_row (2 ^ i) _) ∙ mul_comm (2 ^ i) n₀

  -- the base blocks of a message, lifted, are its codeword
  pub lift_base : (i : ℕ) → Legal F C i → (m : List R) → length m ≡ dim F C i → lift F C i (base_blocks F C (2 ^ i) m) ≡ encode F C i m
  unfolding lift base_blocks base_messages flat_map row encode generator
  lift_base zero 𝓛 m e =
      let k = length G₀ in
      append-nil _
      ∙ ap₂ (λ n v. times K n v G₀) (sym (mul-one n₀)) (ap (λ j. take k (drop j m)) (mul-zero k) ∙ take_all k m (omega (arith, mul-one k)))
  lift_base (suc i) 𝓛 m e =
      let h = message_halves F C i m e in
      let l = base_blocks F C (2 ^ i) h.left in
      let r = base_blocks F C (2 ^ i) h.right in
      let n : length l ≡ size F C i = length_blocks i (below F C i 𝓛) h.left in
      ap (lift F C (suc i)) (ap₂ (base_blocks F C) (two-pow-succ i) (sym h.whole) ∙ blocks_append (2 ^ i) (2 ^ i) h.left h.right h.length_left)
      ∙ ap₂ (λ u v. butterfly F C i (lift F C i u) (lift F C i v)) (take_at l r _ n) (drop_at l r _ n)
      ∙ ap₂ (butterfly F C i) (lift_base i (below F C i 𝓛) h.left h.length_left) (lift_base i (below F C i 𝓛) h.right h.length_right)
      ∙ sym (encode_halves F C i 𝓛 h.left h.right h.length_left)
      ∙ ap (encode F C (suc i)) h.whole

-- over one base row the base blocks are each word times the row
module _ (F : Field) (g : List F.ring.R) (T T' : ℕ → List F.ring.R) where
  pub spread_blocks : (m : List F.ring.R) → spread F g m ≡ base_blocks F (one_row F g T T') (length m) m
  unfolding spread base_blocks base_messages flat_map row times
  spread_blocks [] = refl
  spread_blocks (x ∷ m) =
      let next : (j : ℕ) → suc (1 * j) ≡ 1 * suc j = λ j. omega arith in
      ap₂ ◌++◌ (sym (sum_zeros F.ring (length g) _ (length-map g _)))
      (spread_blocks m ∙ ap (flat_map _) (row_ext (length m) _ _ (λ j h. ap (λ n. take 1 (drop n (x ∷ m))) (next j))))
