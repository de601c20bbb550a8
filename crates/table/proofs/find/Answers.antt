use mathlib.Core.Path.{sym, ap, ◌∙◌}
use lib.ListN.{replicate}
use Rattle.residue.specs.Chosen.{chosen}
use Rattle.table.proofs.Finding.{message_asks, Entries, entries}
use Rattle.table.proofs.find.Goals as goal
use Rattle.table.proofs.find.Goals.{After-transform}

pub transform-requires : goal.transform-requires
transform-requires c =
    message_asks (chosen c.args.field) c.copy.ensures c.depth_of-depth.ensures c.requires.message.0 c.requires.message.1

pub to_clearances-requires : goal.to_clearances-requires
to_clearances-requires c =
    let filled : (let a = c.args in Entries (chosen a.field) a.message.now c.transform.new.s) = entries (chosen c.args.field) c.copy.ensures c.depth_of-depth.ensures c.requires.message.0 c.transform.ensures in
    let t = c.before.before.before.before in
    let x = filled in
    (c.requires.lengths.0 ∙ sym x.many, x.low)

pub returns : goal.returns
returns c =
    let filled : (let a = c.args in Entries (chosen a.field) a.message.now c.transform.new.s) = entries (chosen c.args.field) c.copy.ensures c.depth_of-depth.ensures c.requires.message.0 c.transform.ensures in
    let t = c.before.before.before.before.before.before.before.before in
    let x = filled in
    let e = c.to_clearances.ensures in
    (e.0 ∙ x.are, e.1 ∙ ap (λ n. replicate n 0) (x.many ∙ sym c.requires.lengths.1))
