use native.Mathlib.Omega.{arith}
use Rattle.residue.specs.ResidueLaws.{is_low}
use Rattle.residue.specs.Chosen.{chosen}
use Rattle.job.specs.SizeLaws.{size_most}
use Rattle.cofactor.proofs.Minors.{even_value, odd_value}
use Rattle.cofactor.proofs.cofactor.Goals as goal

pub overflow_add-i : goal.overflow_add-i
overflow_add-i c = omega (arith, size_most c.requires.lent.size)

pub returns-then-i-j-eq0 : goal.returns-then-i-j-eq0
returns-then-i-j-eq0 c =
    let a = c.args in
    even_value (chosen a.field) a.k a.n a.g.now a.i a.j c.minor-d.ensures c.if-i-j-eq0.true

pub negated-requires : goal.negated-requires
negated-requires c = is_low (chosen c.args.field) _ c.minor-d.ensures

pub returns : goal.returns
returns c =
    let a = c.args in
    odd_value (chosen a.field) a.k a.n a.g.now a.i a.j c.minor-d.ensures c.if-i-j-eq0.false c.negated.ensures
