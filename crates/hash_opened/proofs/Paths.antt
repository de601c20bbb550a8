-- Nodes that no path goes through, and how high a tree in memory can be. Assumes nothing.
use mathlib.Core.Path.{◌≡◌, refl, sym, ap, ◌∙◌}
use mathlib.Core.Bool.{Bool, true, false, not}
use mathlib.Core.List.{List, flat_map}
use Prim.Native.Nat.{ℕ, ◌+◌, ◌*◌, ◌%◌, ◌^◌, ◌<◌, ◌≤◌}
use native.Mathlib.Nat.{le-mul_of_pos_right}
use native.Mathlib.Omega.{arith}
use lib.Dec.{ltb}
use lib.Pow.{pow_mono}
use borrow.Author.Tests.{ltb-true, ltb-false}
use Rattle.algebra.specs.Lists.{row}
use Rattle.algebra.specs.Tests.{all}
use Rattle.hash_parts.specs.Queries.{under, leaves}
use Rattle.hash_parts.specs.Parts.{none_pass, none_given}
use Rattle.hash_opened.specs.Carried.{path_bytes, paths_put}

module _ (w : List ℕ) (t j : ℕ) (us : List ℕ) (first s : ℕ) (o : List ℕ) where
  -- below a leaf there is no sibling
  pub leaf_paths : t ≡ 0 → o ≡ paths_put w t j us first s o
  unfolding path_bytes flat_map row
  leaf_paths e = sym (none_given (under (leaves w) t j) (λ u. path_bytes w t (u % leaves w)) s us (first + 8) o (λ u. ap (λ k. path_bytes w k (u % leaves w)) e))

  -- a node that a test has found to be above no query's leaf
  pub no_paths : {ok : Bool} → ok ≡ all (λ u. not (under (leaves w) t j u)) us → ok ≡ true → o ≡ paths_put w t j us first s o
  no_paths e p = sym (none_pass (under (leaves w) t j) (λ u. path_bytes w t (u % leaves w)) s us (first + 8) o (sym e ∙ p))

pub low_height : (n t j : ℕ) → 2 ^ t * (j + 1) ≤ n → n < 2 ^ 63 → t < 63
low_height n t j p h = go (ltb t 63) refl
  where
    go : (b : Bool) → ltb t 63 ≡ b → t < 63
    go true e = ltb-true t 63 e
    go false e = absurd (omega (arith, pow_mono (ltb-false t 63 e), le-mul_of_pos_right {m = j + 1} (2 ^ t) (omega arith)))
