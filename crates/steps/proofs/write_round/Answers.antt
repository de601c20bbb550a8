use native.Mathlib.Omega.{arith}
use lib.ListN.{length-take}
use Rattle.residue.specs.Chosen.{chosen}
use Rattle.steps.proofs.Places.{message_within, send_input, round_given}
use Rattle.steps.proofs.write_round.Goals as goal

pub slice_bounds-round_values-end : goal.slice_bounds-round_values-end
slice_bounds-round_values-end c = simp length-take (omega (arith, c.requires.point, c.requires.level))

pub slice_bounds-round_values-end-2 : goal.slice_bounds-round_values-end-2
slice_bounds-round_values-end-2 c = let a = c.args in simp length-take (omega (arith, message_within (chosen a.field) a.depth a.i a.w a.z.now a.opening.now a.work.now c.requires _ _ c.message_len-n.ensures c.round_at-at.ensures))

pub round_values-requires : goal.round_values-requires
round_values-requires c = let a = c.args in send_input (chosen a.field) a.depth a.i a.w a.z.now a.opening.now a.work.now c.requires _ _ c.message_len-n.ensures c.round_at-at.ensures

pub returns : goal.returns
returns c = let a = c.args in round_given (chosen a.field) a.depth a.i a.w a.z.now a.opening.now a.work.now c.requires _ _ c.message_len-n.ensures c.round_at-at.ensures _ c.round_values.ensures
