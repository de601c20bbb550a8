use native.Mathlib.Omega.{arith}
use Rattle.base_undo.proofs.Grouping.{one_column_lem}
use Rattle.base_undo.proofs.groups.transpose.Goals as goal

pub returns-else-k-ne1 : goal.returns-else-k-ne1
returns-else-k-ne1 c = one_column_lem c.args.k c.args.q c.args.w.now c.requires (omega arith)
