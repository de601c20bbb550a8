-- What a proof carries of a block's hash tree for each query. Definitions only. Assumes nothing.
use Rattle.std.specs.Prelude.{true, ℕ, ◌+◌, ◌%◌, ◌^◌}
use mathlib.Core.List.{List, ◌++◌, flat_map}
use Rattle.merkle.specs.Tree.{path}
use Rattle.hash_tree.specs.Tree.{node_hash}
use Rattle.hash_root.specs.Levels.{leaf_of}
use Rattle.hash_parts.specs.Queries.{leaves, leaf_bytes, under, put_each}

-- the bytes of the siblings on the first h steps up from leaf j
unfoldable pub path_bytes : List ℕ → ℕ → ℕ → List ℕ
path_bytes w h j = flat_map (λ x. x) (path node_hash (leaf_of w) h j)

-- ONE QUERY, of the leaf u modulo 2^h: the leaf's words, and its path
unfoldable pub carried : ℕ → List ℕ → ℕ → List ℕ
carried h w u = leaf_bytes (2 ^ h) w (u % 2 ^ h) ++ path_bytes w h (u % 2 ^ h)

-- ALL QUERIES: what query k carries is put at first + stride * k
abbrev pub written : ℕ → List ℕ → List ℕ → ℕ → ℕ → List ℕ → List ℕ
written h w us first stride o = put_each (λ u. true) (carried h w) stride us first o

-- the paths through node j of height t, up to that node
abbrev pub paths_put : List ℕ → ℕ → ℕ → List ℕ → ℕ → ℕ → List ℕ → List ℕ
paths_put w t j us first stride o = put_each (under (leaves w) t j) (λ u. path_bytes w t (u % leaves w)) stride us (first + 8) o
