use Rattle.residue.specs.Chosen.{chosen}
use Rattle.base_rounds.specs.RowLaws.{give_input}
use Rattle.base_rounds.proofs.OneRound.{block_input, round_result}
use Rattle.base_rounds.proofs.write_round.Goals as goal

pub write_round-requires : goal.write_round-requires
write_round-requires c = give_input (chosen c.args.code.now.field) c.requires

pub write_level-requires : goal.write_level-requires
write_level-requires c = let a = c.args in block_input (chosen a.code.now.field) a.depth a.code.now.low a.i a.code.now.k a.code.now.n a.w a.code.now.g.now a.code.now.t.now a.code.now.t2.now a.z.now a.r.now a.opening.now a.work.now c.requires _ _ c.fold_by_challenge-v.ensures _ c.write_round.ensures c.write_round.auto.opening

pub returns : goal.returns
returns c = let a = c.args in round_result (chosen a.code.now.field) a.depth a.code.now.low a.i a.code.now.k a.code.now.n a.w a.code.now.g.now a.code.now.t.now a.code.now.t2.now a.z.now a.r.now a.opening.now a.work.now c.requires _ _ c.fold_by_challenge-v.ensures _ _ c.write_round.ensures c.write_level.ensures
