-- A hash tree of 2^h leaves, the path of a leaf, and what a path makes of a leaf. Definitions only. Assumes nothing.
use Rattle.std.specs.Prelude.{List, [], ◌∷◌, ℕ, zero, suc, ◌+◌, ◌*◌, ◌-◌, ◌/◌, ◌%◌, ◌^◌}
use Rattle.algebra.specs.Bits.{either}
use Rattle.algebra.specs.Lists.{row}

-- the other child of the same parent
abbrev pub sibling : ℕ → ℕ
sibling j = either (j % 2) (j - 1) (j + 1)

module _ {D : Type 0} (hash : D → D → D) where
  -- node j of height k over the leaves: a leaf, or the hash of its two children
  unfoldable pub node : (ℕ → D) → ℕ → ℕ → D
  node leaf zero j = leaf j
  node leaf (suc k) j = hash (node leaf k (2 * j)) (node leaf k (2 * j + 1))

  abbrev pub root : (ℕ → D) → ℕ → D
  root leaf h = node leaf h 0

  -- the siblings of leaf j and of the nodes above it, from the leaf up
  abbrev pub path : (ℕ → D) → ℕ → ℕ → List D
  path leaf h j = row h (λ k. node leaf k (sibling (j / 2 ^ k)))

  -- node x in place j hashed with its sibling: even places are left children
  abbrev pub parent : ℕ → D → D → D
  parent j x s = either (j % 2) (hash s x) (hash x s)

  -- what a list of siblings makes of x in place j
  unfoldable pub climb : ℕ → D → List D → D
  climb j x [] = x
  climb j x (s ∷ ss) = climb (j / 2) (parent j x s) ss
