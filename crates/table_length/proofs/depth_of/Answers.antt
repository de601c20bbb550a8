use lib.Dec.{lit<}
use Rattle.job.specs.Limits.{max_depth}
use Rattle.table_length.proofs.Bits.{zeros_below}
use Rattle.table_length.proofs.depth_of.Goals as goal

pub returns : goal.returns
returns c = zeros_below 64 max_depth _ (lit< tt) c.requires
