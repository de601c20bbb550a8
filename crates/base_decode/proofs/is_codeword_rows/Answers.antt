use Rattle.residue.specs.Chosen.{chosen}
use Rattle.base_decode.proofs.Deciding.{columns_input, tried}
use Rattle.base_decode.proofs.is_codeword_rows.Goals as goal

pub message_of_rows-requires : goal.message_of_rows-requires
message_of_rows-requires c = (c.requires.input, c.requires.sixteen, c.requires.low)

pub is_its_codeword-requires : goal.is_its_codeword-requires
is_its_codeword-requires c =
    let a = c.args in
    let p = c.message_of_rows in
    columns_input (chosen a.code.now.field) a.depth a.code.now.k a.code.now.n a.code.now.g.now a.m.now a.code.now.t.now a.code.now.t2.now a.block.now _ c.requires p.new.work p.auto.work (p.ensures a.code.now.g.now)

pub returns : goal.returns
returns c =
    let a = c.args in
    let p = c.message_of_rows in
    let q = c.is_its_codeword in
    tried (chosen a.code.now.field) a.depth a.code.now.k a.code.now.n a.code.now.g.now a.m.now a.code.now.t.now a.code.now.t2.now a.block.now _ c.requires p.new.work p.auto.work (p.ensures a.code.now.g.now) q.result q.new.work q.ensures
