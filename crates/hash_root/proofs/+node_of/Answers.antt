use Prim.Native.Nat.{◌-◌}
use native.Mathlib.Omega.{arith}
use Rattle.hash_root.proofs.Nodes.{place_in, child_in, right_in, leaf_node, joined}
use Rattle.hash_root.proofs.+node_of.Goals as goal

pub leaf_of-requires : goal.leaf_of-requires
leaf_of-requires t c = place_in _ c.args.height c.args.j c.requires

pub returns-then-height-eq0 : goal.returns-then-height-eq0
returns-then-height-eq0 t c = let a = c.args in leaf_node a.block.now a.height a.j (omega arith) c.leaf_of.ensures

pub overflow_mul-j : goal.overflow_mul-j
overflow_mul-j t c = let a = c.args in omega (arith, right_in _ a.height (a.height - 1) a.j (omega arith) c.requires)

pub node_of-left-requires : goal.node_of-left-requires
node_of-left-requires t c = let a = c.args in (omega (arith, c.decreases), child_in _ a.height (a.height - 1) a.j _ (omega arith) (omega arith) c.requires)

pub overflow_mul-j-2 : goal.overflow_mul-j-2
overflow_mul-j-2 t c = let a = c.args in omega (arith, right_in _ a.height (a.height - 1) a.j (omega arith) c.requires)

pub overflow_add-j : goal.overflow_add-j
overflow_add-j t c = let a = c.args in omega (arith, right_in _ a.height (a.height - 1) a.j (omega arith) c.requires)

pub node_of-right-requires : goal.node_of-right-requires
node_of-right-requires t c = let a = c.args in (omega (arith, c.decreases), child_in _ a.height (a.height - 1) a.j _ (omega arith) (omega arith) c.requires)

pub returns : goal.returns
returns t c = let a = c.args in joined a.block.now a.height (a.height - 1) a.j (omega arith) c.node_of-left.ensures c.node_of-right.ensures c.node.ensures
