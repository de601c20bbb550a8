use mathlib.Core.Path.{sym}
use Rattle.tvarchula.proofs.ground.tv_coefficients_to_table.Goals as goal

pub returns : goal.returns
returns c = record { job = c.coefficients_to_table.result; answer = c.plain.ensures; result = rw (sym c.named.ensures) c.coefficients_to_table.ensures }
