use mathlib.Core.Path.{sym}
use native.Mathlib.Omega.{arith}
use lib.ListN.{get_or-eq_default}
use Rattle.base_matrix.proofs.word_or_zero.Goals as goal

pub returns : goal.returns
returns c = sym (get_or-eq_default c.args.b.now 0 (omega arith))
