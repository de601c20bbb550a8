use native.Mathlib.Omega.{arith}
use Rattle.residue.specs.Chosen.{chosen}
use Rattle.base_decode.proofs.Deciding.{few, by_halves}
use Rattle.base_decode.proofs.is_its_codeword.Goals as goal

pub overflow_mul-k : goal.overflow_mul-k
overflow_mul-k c =
    let a = c.args in
    omega (arith, few (chosen a.code.now.field) a.depth a.code.now.k a.code.now.n a.code.now.g.now a.code.now.t.now a.code.now.t2.now a.block.now a.work.now c.requires)

pub same_columns_rows-requires : goal.same_columns_rows-requires
same_columns_rows-requires c = c.requires

pub returns-then-n-k : goal.returns-then-n-k
returns-then-n-k c = c.same_columns_rows.ensures

pub same_codeword_rows-requires : goal.same_codeword_rows-requires
same_codeword_rows-requires c =
    let a = c.args in
    by_halves (chosen a.code.now.field) a.depth a.code.now.k a.code.now.n a.code.now.g.now a.code.now.t.now a.code.now.t2.now a.block.now a.work.now c.requires (omega arith)

pub returns : goal.returns
returns c = c.same_codeword_rows.ensures
