-- A path as bytes, and what it makes of a node. Definitions only. Assumes nothing.
use Rattle.std.specs.Prelude.{List, ℕ, ◌*◌, ◌/◌, length, take, drop}
use Rattle.algebra.specs.Lists.{row}
use Rattle.merkle.specs.Tree.{climb}
use Rattle.hash_tree.specs.Tree.{node_hash}

-- the first h pieces of 32 bytes
abbrev pub pieces : ℕ → List ℕ → List (List ℕ)
pieces h bs = row h (λ k. take 32 (drop (32 * k) bs))

-- what the bytes of a path make of x in place j
unfoldable pub climbed : ℕ → List ℕ → List ℕ → List ℕ
climbed j x bs = climb node_hash j x (pieces (length bs / 32) bs)
