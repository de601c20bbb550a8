use mathlib.Core.Path.{sym}
use Rattle.tvarchula.proofs.ground.tv_table_to_coefficients.Goals as goal

pub returns : goal.returns
returns c = record { job = c.table_to_coefficients.result; answer = c.plain.ensures; result = rw (sym c.named.ensures) c.table_to_coefficients.ensures }
