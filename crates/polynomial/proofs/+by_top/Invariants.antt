use lib.ListN.{length}
use Rattle.polynomial.proofs.+by_top.Given as goal

abbrev pub decreases-by_top : goal.decreases-by_top
decreases-by_top l = length l.z.now
