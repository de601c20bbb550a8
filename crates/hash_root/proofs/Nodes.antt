-- The places of the nodes of a tree over n leaves, and a node from its children. Assumes nothing.
use mathlib.Core.Path.{◌≡◌, sym, ap, ap₂, ◌∙◌}
use mathlib.Core.List.{List}
use Prim.Native.Nat.{ℕ, suc, ◌+◌, ◌*◌, ◌^◌, ◌<◌, ◌≤◌}
use native.Mathlib.Nat.{pow-suc, mul_assoc, mul_comm, mul-le-mul_left, le-mul_of_pos_right}
use native.Mathlib.Omega.{arith}
use lib.Pow.{pow_pos}
use Rattle.merkle.specs.Tree.{node}
use Rattle.hash_tree.specs.Tree.{node_hash}
use Rattle.hash_root.specs.Levels.{leaf_of}

-- the leaves below node j of height h are among the n
abbrev pub Inside : ℕ → ℕ → ℕ → Type 0
Inside n h j = 2 ^ h * (j + 1) ≤ n

pub place_in : (n h j : ℕ) → Inside n h j → j < n
place_in n h j p = let a = le-mul_of_pos_right (j + 1) (pow_pos h) in let b = mul_comm (j + 1) (2 ^ h) in omega arith

-- so are those below a child in place k, with m for k + 1
pub child_in : (n h low j m : ℕ) → h ≡ suc low → m ≤ 2 * (j + 1) → Inside n h j → 2 ^ low * m ≤ n
child_in n h low j m e l p =
    let whole : 2 ^ h * (j + 1) ≡ 2 ^ low * (2 * (j + 1)) = ap (λ i. 2 ^ i * (j + 1)) e ∙ ap (λ x. x * (j + 1)) (pow-suc 2 low) ∙ mul_assoc (2 ^ low) 2 (j + 1) in
    let part : 2 ^ low * m ≤ 2 ^ low * (2 * (j + 1)) = mul-le-mul_left (2 ^ low) l in
    omega arith

-- the place of a right child
pub right_in : (n h low j : ℕ) → h ≡ suc low → Inside n h j → 2 * j + 1 < n
right_in n h low j e p = place_in n low (2 * j + 1) (child_in n h low j (2 * j + 1 + 1) e (omega arith) p)

module _ (w : List ℕ) where
  pub leaf_node : (h j : ℕ) {r : List ℕ} → h ≡ 0 → r ≡ leaf_of w j → r ≡ node node_hash (leaf_of w) h j
  unfolding node
  leaf_node h j e p = p ∙ sym (ap (λ i. node node_hash (leaf_of w) i j) e)

  pub joined : (h low j : ℕ) {a b r : List ℕ} → h ≡ suc low → a ≡ node node_hash (leaf_of w) low (2 * j) → b ≡ node node_hash (leaf_of w) low (2 * j + 1) → r ≡ node_hash a b
      → r ≡ node node_hash (leaf_of w) h j
  unfolding node
  joined h low j e p q s = s ∙ ap₂ node_hash p q ∙ sym (ap (λ i. node node_hash (leaf_of w) i j) e)
