use Rattle.residue.specs.Chosen.{chosen}
use Rattle.columns.proofs.Comparing.{comparing, compared}
use Rattle.columns.proofs.lift.lifts_to.Goals as goal

pub same_places-requires : goal.same_places-requires
same_places-requires c =
    let a = c.args in
    (c.requires.0.column, c.requires.0.wide, comparing (chosen a.field) a.depth a.j a.g.now a.t.now a.t2.now a.block.now a.w.now c.requires.0 c.requires.1 c.lift.new.w c.lift.auto.w)

pub returns : goal.returns
returns c =
    let a = c.args in
    compared (chosen a.field) a.depth a.j a.g.now a.t.now a.t2.now a.block.now a.w.now c.requires.0 c.requires.1 c.lift.new.w c.lift.auto.w c.same_places.result c.lift.ensures c.same_places.ensures
