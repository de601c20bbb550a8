use lib.Dec.{leb}
use Rattle.algebra.specs.Flags.{goes}
use Rattle.std.proofs.Common.{ap, not}
use Rattle.table_length.specs.Depth.{table_ok}
use Rattle.table_length.proofs.table_ok.Goals as goal

pub returns-then-is_power : goal.returns-then-is_power
unfolding table_ok
returns-then-is_power c = goes c.is_power.ensures (ap not c.if-is_power.true) (ap (λ k. leb k c.args.n) c.sound_k0.ensures)
