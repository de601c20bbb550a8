use mathlib.Core.Path.{sym}
use Rattle.tvarchula.proofs.coding.tv_decode.Goals as goal

pub returns : goal.returns
returns c = record { job = c.decode.result; answer = c.plain.ensures; result = rw (sym c.named.ensures) c.decode.ensures }
