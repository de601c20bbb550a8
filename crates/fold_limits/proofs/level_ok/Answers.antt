use native.Mathlib.Omega.{arith}
use borrow.Author.Tests.{le-leb}
use Rattle.fold_limits.specs.Limits.{level_ok}
use Rattle.fold_limits.proofs.level_ok.Goals as goal

pub returns-then-p-ge1 : goal.returns-then-p-ge1
unfolding level_ok
returns-then-p-ge1 c = rw (le-leb 1 c.args.p.depth (omega arith)) c.depth_ok.ensures
