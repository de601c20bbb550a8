-- The path of a leaf of a block leads to the block's root. Assumes nothing.
use Rattle.std.specs.Prelude.{◌≡◌, List, ℕ, ◌^◌, ◌<◌}
use Rattle.merkle.specs.Tree.{path, climb}
use Rattle.merkle.specs.TreeLaws.{climb_path}
use Rattle.hash_tree.specs.Tree.{node_hash}
use Rattle.hash_root.specs.Levels.{leaf_of, level_root}

pub path_leads : (h j : ℕ) (w : List ℕ) → j < 2 ^ h → climb node_hash j (leaf_of w j) (path node_hash (leaf_of w) h j) ≡ level_root h w
path_leads h j w = climb_path node_hash (leaf_of w) h j
