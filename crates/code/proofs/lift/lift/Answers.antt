use native.Mathlib.Omega.{arith}
use Rattle.residue.specs.declared.Field.TheVariants.{First, Second}
use Rattle.residue.specs.Chosen.{chosen}
use Rattle.code.proofs.Levels.{lift_none, loosened}
use Rattle.code.proofs.Settling.{settle_asks_of, settled_first, settled_second}
use Rattle.code.proofs.lift.lift.Goals as goal

pub returns-then-depth-eq0 : goal.returns-then-depth-eq0
returns-then-depth-eq0 c =
    let a = c.args in
    lift_none (chosen a.field) a.depth a.g.now a.t.now a.t2.now a.out.now c.requires (omega arith)

pub lift_loose-requires : goal.lift_loose-requires
lift_loose-requires c =
    let a = c.args in
    loosened (chosen a.field) a.depth a.g.now a.t.now a.t2.now a.out.now c.requires

pub settle-requires : goal.settle-requires
settle-requires c =
    let a = c.args in
    settle_asks_of a.depth a.g.now a.t.now a.t2.now a.out.now _ c.lift_loose.ensures First c.in-First.is

pub settle_second-requires : goal.settle_second-requires
settle_second-requires c =
    let a = c.args in
    settle_asks_of a.depth a.g.now a.t.now a.t2.now a.out.now _ c.lift_loose.ensures Second c.in-Second.is

pub returns-in-First : goal.returns-in-First
returns-in-First c =
    let a = c.args in
    settled_first a.depth a.g.now a.t.now a.t2.now a.out.now _ c.lift_loose.ensures c.in-First.is c.settle.ensures

pub returns-in-Second : goal.returns-in-Second
returns-in-Second c =
    let a = c.args in
    settled_second a.depth a.g.now a.t.now a.t2.now a.out.now _ c.lift_loose.ensures c.in-Second.is c.settle_second.ensures
