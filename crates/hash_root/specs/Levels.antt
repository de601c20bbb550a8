-- The hash tree over a block of words. Definitions only. Assumes nothing.
use Rattle.std.specs.Prelude.{List, ℕ, ◌+◌, ◌/◌, length, get_or}
use Rattle.merkle.specs.Tree.{root}
use Rattle.hash_tree.specs.Tree.{leaf_hash, node_hash}

-- LEAF j: word j of the left half and word j of the right half
unfoldable pub leaf_of : List ℕ → ℕ → List ℕ
leaf_of w j = leaf_hash (get_or w j 0) (get_or w (j + length w / 2) 0)

-- THE ROOT over 2^h leaves
abbrev pub level_root : ℕ → List ℕ → List ℕ
level_root h w = root node_hash (leaf_of w) h
