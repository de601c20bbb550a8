-- The path of a leaf leads to the root. Assumes nothing.
use Rattle.std.specs.Prelude.{◌≡◌}
use Rattle.std.proofs.Math.Path.{refl, ap, ap₂}
use Rattle.std.proofs.Common.{sym, ◌∙◌, zero-add, shr-shr}
use Prim.Native.Nat.{ℕ, zero, suc, ◌+◌, ◌*◌, ◌-◌, ◌/◌, ◌%◌, ◌^◌, ◌<◌}
use Rattle.std.proofs.Math.Nat.{div-eq_of_lt}
use native.Mathlib.Omega.{arith}
use Rattle.algebra.specs.Bits.{either}
use Rattle.algebra.specs.Lists.{row, row_ext}
use Rattle.merkle.specs.Tree.{sibling, node, root, path, parent, climb}

step : (j i : ℕ) → j / 2 / 2 ^ i ≡ j / 2 ^ suc i
step j i = shr-shr j 1 i ∙ ap (λ (k : ℕ). j / 2 ^ k) (omega arith)

module _ {D : Type 0} (hash : D → D → D) (leaf : ℕ → D) where
  -- a node hashed with its sibling is the node above
  parent_node : (k j : ℕ) → parent hash j (node hash leaf k j) (node hash leaf k (sibling j)) ≡ node hash leaf (suc k) (j / 2)
  unfolding node
  parent_node k j = go (j % 2) refl
    where
      at : ℕ → D
      at = node hash leaf k

      go : (b : ℕ) → b ≡ j % 2 → either b (hash (at (either b (j - 1) (j + 1))) (at j)) (hash (at j) (at (either b (j - 1) (j + 1)))) ≡ hash (at (2 * (j / 2))) (at (2 * (j / 2) + 1))
      go zero e = ap₂ (λ x y. hash (at x) (at y)) (omega arith) (omega arith)
      go (suc b) e = ap₂ (λ x y. hash (at x) (at y)) (omega arith) (omega arith)

  -- from height k on
  climb_from : (h k j : ℕ) → climb hash j (node hash leaf k j) (row h (λ i. node hash leaf (k + i) (sibling (j / 2 ^ i)))) ≡ node hash leaf (k + h) (j / 2 ^ h)
  unfolding row climb
  climb_from zero k j = ap₂ (node hash leaf) (omega arith) (omega arith)
  climb_from (suc h) k j =
      let first : k + 0 ≡ k = omega arith in
      let here : j / 2 ^ 0 ≡ j = omega arith in
      ap₂ (climb hash (j / 2))
      (ap₂ (λ n m. parent hash j (node hash leaf k j) (node hash leaf n (sibling m))) first here ∙ parent_node k j)
      (row_ext h _ (λ i. node hash leaf (suc k + i) (sibling (j / 2 / 2 ^ i))) (λ i l. ap₂ (λ n m. node hash leaf n (sibling m)) (omega arith) (sym (step j i))))
      ∙ climb_from h (suc k) (j / 2)
      ∙ ap₂ (node hash leaf) (omega arith) (step j h)

  pub climb_path : (h j : ℕ) → j < 2 ^ h → climb hash j (leaf j) (path hash leaf h j) ≡ root hash leaf h
  unfolding node
  climb_path h j l =
      ap (climb hash j (leaf j)) (row_ext h _ (λ i. node hash leaf (0 + i) (sibling (j / 2 ^ i))) (λ i m. ap (λ (k : ℕ). node hash leaf k (sibling (j / 2 ^ i))) (sym (zero-add i))))
      ∙ climb_from h 0 j
      ∙ ap₂ (node hash leaf) (zero-add h) (div-eq_of_lt l)
