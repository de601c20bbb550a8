use mathlib.Core.Path.{◌∙◌}
use native.Mathlib.Omega.{arith}
use Rattle.residue.specs.Chosen.{chosen}
use Rattle.base_columns.proofs.OneWord.{one_solved}
use Rattle.base_columns.proofs.solve_blocks.Goals as goal

pub new-requires : goal.new-requires
new-requires c = c.requires.low_matrix.low 0 (omega (arith, c.requires.sixteen))

pub scale-requires : goal.scale-requires
scale-requires c = (rw c.new.ensures (c.requires.low_matrix.low 0 (omega (arith, c.requires.sixteen))), c.requires.low)

pub returns-then-k-eq1 : goal.returns-then-k-eq1
returns-then-k-eq1 c =
    let a = c.args in
    c.scale.ensures ∙ one_solved (chosen a.field) a.m.now a.out.now c.requires (omega arith) c.new.ensures
