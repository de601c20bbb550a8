-- How long the carried bytes are, and a path one step longer. Assumes nothing.
use Rattle.std.specs.Prelude.{◌≡◌}
use Rattle.std.proofs.Math.Path.{refl, ap}
use Rattle.std.proofs.Common.{sym, ◌∙◌, add-zero, add-one, arith}
use mathlib.Core.List.{List, [], ◌∷◌, ◌++◌, flat_map, append-nil}
use Prim.Native.Nat.{ℕ, zero, suc, ◌+◌, ◌*◌, ◌/◌, ◌%◌, ◌^◌}
use Rattle.std.proofs.Math.ListN.{length, length-append}
use Rattle.algebra.specs.Lists.{row, row_append, flat_map_append}
use Rattle.sha256.specs.Padding.{bytes, all_bytes}
use Rattle.sha256.specs.Hash.{digest}
use Rattle.merkle.specs.Tree.{sibling, node}
use Rattle.hash_tree.specs.Tree.{leaf_hash, node_hash}
use Rattle.hash_root.specs.Levels.{leaf_of}
use Rattle.hash_parts.specs.Queries.{leaf_bytes}
use Rattle.hash_opened.specs.Carried.{path_bytes, carried}

length_digest : (m : List ℕ) → length (digest m) ≡ 32
unfolding digest all_bytes bytes flat_map
length_digest m = refl

module _ (w : List ℕ) where
  pub length_node : (t j : ℕ) → length (node node_hash (leaf_of w) t j) ≡ 32
  unfolding node leaf_of leaf_hash node_hash
  length_node zero j = length_digest _
  length_node (suc t) j = length_digest _

  pub path_up : (t j : ℕ) → path_bytes w (suc t) j ≡ path_bytes w t j ++ node node_hash (leaf_of w) t (sibling (j / 2 ^ t))
  unfolding path_bytes flat_map row
  path_up t j =
      let at : ℕ → List ℕ = λ k. node node_hash (leaf_of w) k (sibling (j / 2 ^ k)) in
      ap (λ k. flat_map (λ x. x) (row k at)) (sym (add-one t))
      ∙ ap (flat_map (λ x. x)) (row_append t 1 at)
      ∙ ap (λ k. flat_map (λ x. x) (row t at ++ at k ∷ [])) (add-zero t)
      ∙ flat_map_append (λ x. x) (row t at) (at t ∷ [])
      ∙ ap (λ l. path_bytes w t j ++ l) (append-nil (at t))

  pub length_path : (t j : ℕ) → length (path_bytes w t j) ≡ 32 * t
  unfolding path_bytes flat_map row
  length_path zero j = refl
  length_path (suc t) j = ap length (path_up t j) ∙ length-append (path_bytes w t j) _ ∙ omega (arith, length_path t j, length_node t (sibling (j / 2 ^ t)))

pub length_leaf : (n : ℕ) (w : List ℕ) (j : ℕ) → length (leaf_bytes n w j) ≡ 8
unfolding leaf_bytes
length_leaf n w j = refl

-- what each query takes
pub length_carried : (h : ℕ) (w : List ℕ) (u : ℕ) → length (carried h w u) ≡ 8 + 32 * h
unfolding carried
length_carried h w u = length-append (leaf_bytes (2 ^ h) w (u % 2 ^ h)) _ ∙ omega (arith, length_leaf (2 ^ h) w (u % 2 ^ h), length_path w h (u % 2 ^ h))
