-- What is put into a buffer for each query of a hash tree. Definitions only. Assumes nothing.
use Rattle.std.specs.Prelude.{Bool, true, cond, List, [], ◌∷◌, ◌++◌, ℕ, ◌+◌, ◌*◌, ◌/◌, ◌%◌, ◌^◌, ◌≤◌, eqb, length, get_or}
use Rattle.algebra.specs.Bits.{either}
use Rattle.algebra.specs.Lists.{put}
use Rattle.hash_tree.specs.Tree.{low_first}

-- x u put at a place for each query u that passes; the places are stride apart
unfoldable pub put_each : (ℕ → Bool) → (ℕ → List ℕ) → ℕ → List ℕ → ℕ → List ℕ → List ℕ
put_each b x stride [] at o = o
put_each b x stride (u ∷ us) at o = put_each b x stride us (at + stride) (cond (b u) (put at (x u) o) o)

-- there is room for each query's part, of some bytes
pub record Room (part first stride : ℕ) (us out : List ℕ) : Type 0 where
  pub one : part ≤ stride
  pub all : first + stride * length us ≤ length out

-- how many leaves a block has; the leaf of query u among n is u % n
abbrev pub leaves : List ℕ → ℕ
leaves w = length w / 2

-- the bytes of the two words of leaf j among n
unfoldable pub leaf_bytes : ℕ → List ℕ → ℕ → List ℕ
leaf_bytes n w j = low_first (get_or w j 0) ++ low_first (get_or w (j + n) 0)

-- the words of each query's leaf
abbrev pub words_put : List ℕ → List ℕ → ℕ → ℕ → List ℕ → List ℕ
words_put w us first stride o = put_each (λ u. true) (λ u. leaf_bytes (leaves w) w (u % leaves w)) stride us first o

-- the leaf of query u among n lies below node j of height t
abbrev pub under : ℕ → ℕ → ℕ → ℕ → Bool
under n t j u = eqb (u % n / 2 ^ t) j

-- of two siblings of height t, the one that is not above the leaf of query u among n
abbrev pub other : ℕ → ℕ → List ℕ → List ℕ → ℕ → List ℕ
other n t left right u = either (u % n / 2 ^ t % 2) left right

-- two siblings of height t, children of node j, on the paths through that node: behind the words and the siblings below
abbrev pub siblings_put : List ℕ → List ℕ → ℕ → ℕ → ℕ → List ℕ → ℕ → ℕ → List ℕ → List ℕ
siblings_put left right n t j us first stride o = put_each (under n (t + 1) j) (other n t left right) stride us (first + (8 + 32 * t)) o
