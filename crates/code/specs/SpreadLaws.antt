-- The loops of the base blocks. Assumes nothing.
use Rattle.std.specs.Prelude.{◌≡◌, drop, get_or}
use Rattle.std.proofs.Common.{sym, ap₂, ◌∙◌, zero-mul, mul-le-mul_right, arith, take_at, drop_at, drop-drop}
use Rattle.std.proofs.Math.Path.{ap}
use mathlib.Core.List.{List, [], ◌∷◌, ◌++◌}
use Prim.Native.Nat.{ℕ, zero, suc, ◌+◌, ◌*◌, ◌-◌, ◌<◌, ◌≤◌}
use Rattle.std.proofs.Math.Nat.{suc-mul}
use Rattle.std.proofs.Math.ListN.{length, take}
use Rattle.std.proofs.lemmas.List.{length-map}
use Rattle.algebra.specs.Vector.{vectors, get_or_multiple}
use Rattle.algebra.specs.Words.{PrimeField}
use Rattle.algebra.specs.WordLists.{elements, to_words, length_elements, length_words_lem, get_or_elements, get_or_words, words_take, words_drop}
use Rattle.foldable.specs.Lift.{spread, length_spread}
use Rattle.code.specs.Steps.{times}

-- the next base block lies within
pub next_within : (m g : List ℕ) (i b : ℕ) → i < length m → b ≡ i * length g → b + length g ≤ length m * length g
next_within m g i b h p = omega (arith, mul-le-mul_right (length g) h, suc-mul i (length g))

module _ (𝓕 : PrimeField) where
  infixl 70 ◌⊠◌
  infixr 71 ◌⊛◌
  open 𝓕 use {field as F, words as W}
  open F use {ring as K}
  open K use {◌*◌ as ◌⊠◌}
  open W use {el, val as word}
  open vectors K use {◌⊛◌}

  abbrev scaled : ℕ → List ℕ → List ℕ
  scaled a g = to_words 𝓕 (times 𝓕 (el a) (elements 𝓕 g))

  pub length_scaled : (a : ℕ) (g : List ℕ) → length (scaled a g) ≡ length g
  length_scaled a g = length_words_lem 𝓕 _ ∙ length-map (elements 𝓕 g) _ ∙ length_elements 𝓕 g

  pub scaled_at : (a : ℕ) (g : List ℕ) (i : ℕ) → get_or (scaled a g) i 0 ≡ word (el a ⊠ el (get_or g i 0))
  scaled_at a g i = get_or_words 𝓕 _ i ∙ ap word (get_or_multiple K (el a) (elements 𝓕 g) i ∙ ap (λ x. el a ⊠ x) (get_or_elements 𝓕 g i))

  -- base block i
  pub chunk : (g m : List K.R) (i : ℕ) → i < length m → take (length g) (drop (i * length g) (spread F g m)) ≡ get_or m i K.𝟘 ⊛ g
  unfolding spread
  chunk g [] i h = absurd (omega arith)
  chunk g (x ∷ m) zero h = rw (zero-mul (length g)) (take_at (x ⊛ g) (spread F g m) (length g) (length-map g (K.◌*◌ x)))
  chunk g (x ∷ m) (suc i) h =
      let n : suc i * length g ≡ length g + i * length g = omega (arith, suc-mul i (length g)) in
      ap (λ k. take (length g) (drop k (x ⊛ g ++ spread F g m))) n
      ∙ ap (take (length g)) (sym (drop-drop (i * length g) (length g) (x ⊛ g ++ spread F g m)) ∙ ap (drop (i * length g)) (drop_at (x ⊛ g) (spread F g m) (length g) (length-map g (K.◌*◌ x))))
      ∙ chunk g m i (omega arith)

  abbrev pub spreaded : List ℕ → List ℕ → List ℕ
  spreaded m g = to_words 𝓕 (spread F (elements 𝓕 g) (elements 𝓕 m))

  pub length_spreaded : (m g : List ℕ) → length (spreaded m g) ≡ length m * length g
  length_spreaded m g = length_words_lem 𝓕 _ ∙ length_spread F (elements 𝓕 g) (elements 𝓕 m) ∙ ap₂ ◌*◌ (length_elements 𝓕 m) (length_elements 𝓕 g)

  pub spread_part : (m g : List ℕ) (i b e : ℕ) → i < length m → b ≡ i * length g → e ≡ b + length g → (r : List ℕ) → r ≡ scaled (get_or m i 0) g → r ≡ take (e - b) (drop b (spreaded m g))
  spread_part m g i b e h p q r s =
      let n : e - b ≡ length g = omega arith in
      s ∙ sym (ap₂ (λ k j. take k (drop j (spreaded m g))) (n ∙ sym (length_elements 𝓕 g)) (p ∙ ap (λ k. i * k) (sym (length_elements 𝓕 g)))
      ∙ ap (take (length (elements 𝓕 g))) (sym (words_drop 𝓕 (i * length (elements 𝓕 g)) _)) ∙ sym (words_take 𝓕 (length (elements 𝓕 g)) _)
      ∙ ap (to_words 𝓕) (chunk (elements 𝓕 g) (elements 𝓕 m) i (let l = length_elements 𝓕 m in omega arith) ∙ ap (λ x. x ⊛ elements 𝓕 g) (get_or_elements 𝓕 m i)))
