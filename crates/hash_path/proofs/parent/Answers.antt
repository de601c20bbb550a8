use native.Mathlib.Omega.{arith}
use Rattle.hash_path.proofs.Climbs.{left_child}
use Rattle.hash_path.proofs.parent.Goals as goal

pub returns-then-place-eq0 : goal.returns-then-place-eq0
returns-then-place-eq0 c = let a = c.args in left_child a.place a.x.bytes a.sibling.now (omega arith) c.node.ensures
