use Rattle.std.proofs.Common.{ap, ap₂, ◌∙◌, not, eqb, eq-eqb, arith}
use Rattle.algebra.specs.Flags.{goes}
use Rattle.base_parameters.specs.Parameters.{row_lengths}
use Rattle.base_parameters.proofs.judging.lengths_ok.Goals as goal

pub returns-then-t-n : goal.returns-then-t-n
unfolding row_lengths
returns-then-t-n c =
    goes c.in_limits.ensures (ap not c.if-not-in_limits.false)
    (rw (eq-eqb _ _ (c.if-t-n.true.0 ∙ c.row_len.ensures), eq-eqb _ _ (c.if-t-n.true.1 ∙ c.diagonals_len-n.ensures)) (ap₂ eqb (omega arith) c.diagonals_len-n.ensures))
