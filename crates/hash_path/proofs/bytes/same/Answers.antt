use mathlib.Core.Path.{◌∙◌}
use Rattle.hash_path.proofs.Pairs.{pairs_same}
use Rattle.hash_path.proofs.bytes.same.Goals as goal

pub returns : goal.returns
returns c = let a = c.args in c.eq.ensures ∙ pairs_same a.a.now a.b.now
