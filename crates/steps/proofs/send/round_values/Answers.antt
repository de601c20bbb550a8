use native.Mathlib.Omega.{arith}
use Rattle.residue.specs.Chosen.{chosen}
use Rattle.residue.specs.ResidueLaws.{is_low}
use Rattle.steps.proofs.Sends.{sent}
use Rattle.steps.proofs.send.round_values.Goals as goal

pub new-top-requires : goal.new-top-requires
new-top-requires c = c.requires.halves.value.point.low _ (let l = c.requires.halves.top in omega arith)

pub value_at-at_0-requires : goal.value_at-at_0-requires
value_at-at_0-requires c = let 𝓕 = chosen c.args.field in (c.requires.weight, rw c.new-top.ensures (c.requires.halves.value.point.low _ (let l = c.requires.halves.top in omega arith)), is_low 𝓕 _ c.half_values.ensures.left_is, is_low 𝓕 _ c.half_values.ensures.right_is, omega arith)

pub value_at-at_1-requires : goal.value_at-at_1-requires
value_at-at_1-requires c = let 𝓕 = chosen c.args.field in (c.requires.weight, rw c.new-top.ensures (c.requires.halves.value.point.low _ (let l = c.requires.halves.top in omega arith)), is_low 𝓕 _ c.half_values.ensures.left_is, is_low 𝓕 _ c.half_values.ensures.right_is, omega arith)

pub new-requires : goal.new-requires
new-requires c = (chosen c.args.field).above

pub value_at-at_2-requires : goal.value_at-at_2-requires
value_at-at_2-requires c = let 𝓕 = chosen c.args.field in (c.requires.weight, rw c.new-top.ensures (c.requires.halves.value.point.low _ (let l = c.requires.halves.top in omega arith)), is_low 𝓕 _ c.half_values.ensures.left_is, is_low 𝓕 _ c.half_values.ensures.right_is, omega (arith, c.new.ensures))

pub returns : goal.returns
returns c = let a = c.args in sent (chosen a.field) a.w a.z.now a.m.now c.requires.halves _ _ _ c.half_values.ensures c.new-top.ensures _ c.new.ensures c.write_three.ensures c.value_at-at_0.ensures c.value_at-at_1.ensures c.value_at-at_2.ensures
