use mathlib.Core.Path.{ap, ◌∙◌}
use native.Mathlib.Omega.{arith}
use lib.ListN.{length-append, length-take, length-drop}
use Rattle.sha256.specs.Hash.{digest}
use Rattle.hash_tree.specs.Tree.{node_hash}
use Rattle.hash_tree.proofs.Pair.{pair}
use Rattle.hash_tree.proofs.node.Goals as goal

pub slice_bounds-sha256-end : goal.slice_bounds-sha256-end
slice_bounds-sha256-end c =
    let p = c.copy_from_slice.auto.self in
    let q = c.copy_from_slice-2.auto.self in
    simp (length-append, length-take, length-drop) (omega arith)

pub returns : goal.returns
unfolding node_hash
returns c =
    let a = c.args in
    c.sha256.ensures ∙ ap digest (pair a.left.now a.right.now c.requires.0 c.requires.1 c.copy_from_slice.ensures.after c.copy_from_slice-2.ensures.after)
