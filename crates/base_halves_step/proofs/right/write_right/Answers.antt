use native.Mathlib.Omega.{arith}
use Rattle.residue.specs.Chosen.{chosen}
use Rattle.base_halves_step.proofs.OneWord.{one_lent, one_written}
use Rattle.base_halves_step.proofs.right.write_right.Goals as goal

pub write_right-requires : goal.write_right-requires
write_right-requires c =
    let a = c.args in
    one_lent (chosen a.code.now.field) a.level a.code.now.k a.code.now.n a.b a.code.now.g.now a.code.now.t.now a.code.now.t2.now a.work.now c.requires (omega arith)

pub returns-then-k-eq1 : goal.returns-then-k-eq1
returns-then-k-eq1 c =
    let a = c.args in
    one_written (chosen a.code.now.field) a.level a.code.now.k a.code.now.n a.b a.code.now.g.now a.code.now.t.now a.code.now.t2.now a.work.now c.requires (omega arith) _ c.write_right.ensures
