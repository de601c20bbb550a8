use Rattle.std.proofs.Common.{ap, ◌∙◌, eqb, eq-eqb}
use Rattle.open.specs.Writing.{buffer_lengths}
use native.Mathlib.Omega.{arith}
use Rattle.job.specs.SizeLaws.{within}
use Rattle.open.proofs.judge.buffers_ok.Goals as goal

pub overflow_mul-result : goal.overflow_mul-result
overflow_mul-result c = let p = c.args.p in omega (arith, c.message_len.ensures, (within p.depth p.rate p.k0 c.requires).message)

pub returns-then-o-opening_len : goal.returns-then-o-opening_len
unfolding buffer_lengths
returns-then-o-opening_len c = rw (eq-eqb _ _ (c.if-o-opening_len.true ∙ c.opening_len.ensures)) (ap (eqb c.args.s) (omega arith))
