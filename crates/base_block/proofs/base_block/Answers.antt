use native.Mathlib.Omega.{arith}
use Rattle.residue.specs.Chosen.{chosen}
use Rattle.base_block.proofs.Summing.{one_low, one_size, one_block, else_four}
use Rattle.base_block.proofs.base_block.Goals as goal

pub new-requires : goal.new-requires
new-requires c = c.requires.low.low 0 (omega arith)

pub scale-requires : goal.scale-requires
scale-requires c =
    let a = c.args in
    (one_low (chosen a.field) a.n a.g.now a.m.now a.out.now c.requires (omega arith) c.new.ensures, c.requires.lent.low, one_size (chosen a.field) a.n a.g.now a.m.now a.out.now c.requires (omega arith) c.new.ensures)

pub returns-in-1 : goal.returns-in-1
returns-in-1 c =
    let a = c.args in
    one_block (chosen a.field) a.n a.g.now a.m.now a.out.now c.requires (omega arith) c.new.ensures _ c.scale.ensures

pub block_of_four-requires : goal.block_of_four-requires
block_of_four-requires c =
    let a = c.args in
    (c.requires, else_four (chosen a.field) a.n a.g.now a.m.now a.out.now c.requires (λ e. omega arith) (λ e. omega arith))
