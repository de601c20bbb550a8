-- A message schedule that is filled from the front, one word more. Assumes nothing.
use mathlib.Core.Path.{◌≡◌, sym, ◌∙◌}
use mathlib.Core.List.{List}
use Prim.Native.Nat.{ℕ, ◌+◌, ◌<◌, ◌≤◌}
use native.Mathlib.Omega.{arith}
use lib.ListN.{get_or, set, replicate}
use Rattle.algebra.specs.Lists.{row, length_row, get_or_row}
use Rattle.algebra.specs.Filling.{Filled, filled_new, filled_turn}
use Rattle.sha256_block.specs.Compression.{M, next, W}
use Rattle.sha256_block.specs.CompressionLaws.{next_ext, word_first, word_next}

module _ (b : List ℕ) {w : List ℕ} (t : ℕ) (so_far : Filled t (row 64 (W b)) (replicate 64 0) w) where
  pub first_turn : {v : ℕ} → t < 16 → v ≡ M b t → Filled (t + 1) (row 64 (W b)) (replicate 64 0) (set w t v)
  first_turn h e = filled_turn 0 (omega arith) (length_row 64 (W b)) so_far (e ∙ sym (word_first b t h) ∙ sym (get_or_row 64 (W b) t 0 (omega arith)))

  pub next_turn : {v : ℕ} → 16 ≤ t → t < 64 → v ≡ next (λ j. get_or w j 0) t → Filled (t + 1) (row 64 (W b)) (replicate 64 0) (set w t v)
  next_turn h k e =
      let before : (j : ℕ) → j < t → get_or w j 0 ≡ W b j = λ j l. filled_new so_far j 0 l (length_row 64 (W b)) ∙ get_or_row 64 (W b) j 0 (omega arith) in
      filled_turn 0 k (length_row 64 (W b)) so_far (e ∙ next_ext _ (W b) t h before ∙ sym (word_next b t h) ∙ sym (get_or_row 64 (W b) t 0 k))
