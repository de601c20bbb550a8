use mathlib.Core.Path.{ap₂, ◌∙◌}
use native.Mathlib.Omega.{arith}
use lib.ListN.{length-take}
use Rattle.residue.specs.Elements.{el, elem, word}
use Rattle.residue.specs.Chosen.{chosen}
use Rattle.steps.specs.Steps.{weighed}
use Rattle.base_steps.proofs.RowTakes.{whole_within, fold_input, challenge_taken}
use Rattle.base_steps.proofs.fold_by_challenge.Goals as goal

pub new-a-requires : goal.new-a-requires
new-a-requires c = c.requires.challenges_low.low _ c.requires.challenge

pub slice_bounds-fold-end : goal.slice_bounds-fold-end
slice_bounds-fold-end c = let a = c.args in whole_within (chosen a.field) a.low a.i a.w a.z.now a.r.now a.work.now c.requires _ _ c.message_len-n.ensures c.new-a.ensures

pub slice_bounds-fold-end-2 : goal.slice_bounds-fold-end-2
slice_bounds-fold-end-2 c = let a = c.args in simp length-take (omega (arith, whole_within (chosen a.field) a.low a.i a.w a.z.now a.r.now a.work.now c.requires _ _ c.message_len-n.ensures c.new-a.ensures))

pub fold-requires : goal.fold-requires
fold-requires c = let a = c.args in fold_input (chosen a.field) a.low a.i a.w a.z.now a.r.now a.work.now c.requires _ _ c.message_len-n.ensures c.new-a.ensures

pub new-requires : goal.new-requires
new-requires c = c.requires.point_low.low _ c.requires.point

pub weigh-requires : goal.weigh-requires
weigh-requires c = (c.requires.weight, rw c.new.ensures (c.requires.point_low.low _ c.requires.point), rw c.new-a.ensures (c.requires.challenges_low.low _ c.requires.challenge))

pub returns : goal.returns
returns c =
    let a = c.args in
    let 𝓕 = chosen a.field in
    record {
      weight = c.weigh.ensures ∙ ap₂ (λ z x. word 𝓕 (weighed 𝓕 (elem 𝓕 a.w) (el 𝓕 z) (el 𝓕 x))) c.new.ensures c.new-a.ensures;
      left = challenge_taken 𝓕 a.low a.i a.w a.z.now a.r.now a.work.now c.requires _ _ c.message_len-n.ensures c.new-a.ensures _ c.fold.ensures;
    }
