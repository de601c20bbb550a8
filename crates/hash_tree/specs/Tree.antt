-- What leaves and nodes of a hash tree hash. The first byte tells them apart. Assumes nothing.
use Rattle.std.specs.Prelude.{List, [], ◌∷◌, ◌++◌, ℕ, ◌/◌, ◌%◌, ◌^◌}
use Rattle.sha256.specs.Hash.{digest}

-- the four bytes of a word, the lowest first
abbrev pub low_first : ℕ → List ℕ
low_first x = x % 256 ∷ x / 2 ^ 8 % 256 ∷ x / 2 ^ 16 % 256 ∷ x / 2 ^ 24 % 256 ∷ []

-- A LEAF: the byte 0, then its two words
unfoldable pub leaf_hash : ℕ → ℕ → List ℕ
leaf_hash x y = digest (0 ∷ (low_first x ++ low_first y))

-- A NODE: the byte 1, then its two children
unfoldable pub node_hash : List ℕ → List ℕ → List ℕ
node_hash l r = digest (1 ∷ (l ++ r))
