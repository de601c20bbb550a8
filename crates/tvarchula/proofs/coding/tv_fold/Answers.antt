use mathlib.Core.Path.{sym}
use Rattle.tvarchula.proofs.coding.tv_fold.Goals as goal

pub returns : goal.returns
returns c = record { job = c.fold.result; answer = c.plain.ensures; result = rw (sym c.named.ensures) c.fold.ensures }
