use Rattle.row_sums.proofs.Lowering.{settled_sum}
use Rattle.row_sums.proofs.sum_two.Goals as goal

pub returns : goal.returns
returns c =
    let a = c.args in
    settled_sum a.field _ _ a.l a.a.0 a.x a.b.0 a.y c.plus_two_loose-s.ensures.1 c.settled.ensures
