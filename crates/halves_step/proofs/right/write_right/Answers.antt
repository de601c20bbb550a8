use Rattle.residue.specs.Chosen.{chosen}
use Rattle.halves_step.proofs.Spreading.{lift_lent, written}
use Rattle.halves_step.proofs.right.write_right.Goals as goal

pub lift-requires : goal.lift-requires
lift-requires c =
    let a = c.args in
    lift_lent (chosen a.field) a.level a.b a.g.now a.t.now a.t2.now a.work.now c.requires c.message_len-n.ensures c.split_at_mut-message.ensures.front _ c.spread_words.ensures

pub returns : goal.returns
returns c =
    let a = c.args in
    written (chosen a.field) a.level a.b a.g.now a.t.now a.t2.now a.work.now c.requires c.message_len-n.ensures c.split_at_mut-message.ensures.front _ c.spread_words.ensures _ _ c.lift.auto.out c.lift.ensures
