use Rattle.residue.specs.declared.Field.TheVariants.{First, Second}
use Rattle.passes.proofs.Sweeping.{known_asks, known_end}
use Rattle.passes.proofs.sweep.Goals as goal

pub sweep_in-requires : goal.sweep_in-requires
sweep_in-requires c =
    let a = c.args in
    known_asks a.count a.t.now a.t2.now a.out.now First c.in-First.is c.requires

pub sweep_in-requires-in-Second : goal.sweep_in-requires-in-Second
sweep_in-requires-in-Second c =
    let a = c.args in
    known_asks a.count a.t.now a.t2.now a.out.now Second c.in-Second.is c.requires

pub returns-in-First : goal.returns-in-First
returns-in-First c =
    let a = c.args in
    known_end a.count a.t.now a.t2.now a.out.now First c.in-First.is c.sweep_in.ensures

pub returns-in-Second : goal.returns-in-Second
returns-in-Second c =
    let a = c.args in
    known_end a.count a.t.now a.t2.now a.out.now Second c.in-Second.is c.sweep_in-in-Second.ensures
