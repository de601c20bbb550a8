use Rattle.residue.specs.declared.Field.TheVariants.{First, Second}
use Rattle.row_code.proofs.Rows.{known_asks, known_end}
use Rattle.row_code.proofs.spread_loose.Goals as goal

pub spread_in-requires : goal.spread_in-requires
spread_in-requires c =
    let a = c.args in
    known_asks a.m.now a.row.now a.out.now First c.in-First.is c.requires

pub spread_in-requires-in-Second : goal.spread_in-requires-in-Second
spread_in-requires-in-Second c =
    let a = c.args in
    known_asks a.m.now a.row.now a.out.now Second c.in-Second.is c.requires

pub returns-in-First : goal.returns-in-First
returns-in-First c =
    let a = c.args in
    known_end a.m.now a.row.now a.out.now First c.in-First.is c.spread_in.ensures

pub returns-in-Second : goal.returns-in-Second
returns-in-Second c =
    let a = c.args in
    known_end a.m.now a.row.now a.out.now Second c.in-Second.is c.spread_in-in-Second.ensures
