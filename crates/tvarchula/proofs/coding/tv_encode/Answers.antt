use mathlib.Core.Path.{sym}
use Rattle.tvarchula.proofs.coding.tv_encode.Goals as goal

pub returns : goal.returns
returns c = record { job = c.encode.result; answer = c.plain.ensures; result = rw (sym c.named.ensures) c.encode.ensures }
