use Rattle.fold_limits.proofs.Levels.{legal}
use Rattle.algebra.specs.Flags.{passes}
use Rattle.std.proofs.Common.{ap, not}
use Rattle.fold_limits.proofs.lengths_ok.Goals as goal

pub overflow_sub-p : goal.overflow_sub-p
overflow_sub-p c = let p = c.args.p in (legal p.depth p.rate p.k0 (passes c.limits_ok.ensures (ap not c.if-not-limits_ok.false))).0
