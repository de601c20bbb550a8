-- The base messages solved, part by part. Assumes nothing.
use mathlib.Core.Path.{◌≡◌, refl, sym, ap, ap₂, ◌∙◌}
use mathlib.Core.List.{List, [], ◌∷◌}
use Prim.Native.Nat.{ℕ, zero, suc, ◌+◌, ◌*◌, ◌-◌, ◌/◌, ◌<◌, ◌≤◌}
use native.Mathlib.Omega.{arith}
use lib.ListN.{length, take, drop}
use Rattle.algebra.specs.Filling.{fill, Filled}
use Rattle.algebra.specs.Words.{PrimeField}
use Rattle.algebra.specs.WordLists.{low_take, low_drop}
use Rattle.blocks.specs.Base.{base_messages}
use Rattle.base_matrix.specs.Inverting.{SolveLent, solved}
use Rattle.base_columns.specs.Steps.{BlocksLent, solved_blocks}
use Rattle.base_columns.specs.Pieces.{piece, length_pieces, piece_length, length_solved}
use Rattle.base_columns.proofs.Reaching.{Reached, reached_less, first_within}

-- what a loop from the front has not written yet
drop_fill : {A : Type 0} (i : ℕ) (new old : List A) → length new ≡ length old → drop i (fill i new old) ≡ drop i old
unfolding fill
drop_fill zero new old e = refl
drop_fill (suc i) new [] e = refl
drop_fill (suc i) [] (x ∷ old) e = absurd (omega arith)
drop_fill (suc i) (y ∷ new) (x ∷ old) e = drop_fill i new old (omega arith)

module _ (𝓕 : PrimeField) (k : ℕ) (m old : List ℕ) (𝓑 : BlocksLent 𝓕 k m old) where
  abbrev q : ℕ
  q = length old / k

  part_length : (j : ℕ) → j < q → length (take k (drop (k * j) old)) ≡ k
  part_length j h = piece_length k q old 𝓑.whole j h

  all_solved : (j : ℕ) → j < q → length (solved 𝓕 m (take k (drop (k * j) old))) ≡ k
  all_solved j h = length_solved 𝓕 m (take k (drop (k * j) old)) (omega (arith, part_length j h, 𝓑.few)) 𝓑.sixteen ∙ part_length j h

  pub length_solved_blocks : length (solved_blocks 𝓕 k m old) ≡ length old
  unfolding solved_blocks base_messages
  length_solved_blocks = length_pieces (solved 𝓕 m) k q _ all_solved ∙ sym 𝓑.whole

  module _ {i : ℕ} (𝓡 : Reached k k q i i) (h : i < length old) where
    pub before : i < k * q
    before = omega (arith, 𝓑.whole)

    pub in_out : i + k ≤ length old
    in_out = omega (arith, first_within 𝓡 before, 𝓑.whole)

    module _ (out : List ℕ) (𝓘 : Filled i (solved_blocks 𝓕 k m old) old out) where
      -- a part is solved as it was lent
      part_is : take (i + k - i) (drop i out) ≡ take k (drop (k * 𝓡.turn) old)
      part_is =
          let e : i + k - i ≡ k = omega arith in
          ap₂ take e (ap (drop i) 𝓘.is ∙ drop_fill i (solved_blocks 𝓕 k m old) old length_solved_blocks ∙ ap (λ d. drop d old) 𝓡.first)

      pub solve_lent : SolveLent 𝓕 m (take (i + k - i) (drop i out))
      solve_lent =
          rw part_is
          (record {
            sixteen = 𝓑.sixteen;
            few = omega (arith, part_length 𝓡.turn (reached_less 𝓡 before), 𝓑.few);
            low_matrix = 𝓑.low_matrix;
            low = low_take k (low_drop (k * 𝓡.turn) 𝓑.low);
          })

      pub solved_part : {r : List ℕ} → r ≡ solved 𝓕 m (take (i + k - i) (drop i out)) → r ≡ take (i + k - i) (drop i (solved_blocks 𝓕 k m old))
      unfolding solved_blocks base_messages
      solved_part {r} s =
          let f : k ≡ i + k - i = omega arith in
          s
          ∙ ap (solved 𝓕 m) part_is
          ∙ sym (piece (solved 𝓕 m) k q _ all_solved 𝓡.turn (reached_less 𝓡 before))
          ∙ ap₂ (λ c d. take c (drop d (solved_blocks 𝓕 k m old))) f (sym 𝓡.first)
