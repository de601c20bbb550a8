use mathlib.Core.Path.{refl, ap, ◌∙◌}
use mathlib.Core.List.{◌++◌}
use native.Mathlib.Omega.{arith}
use lib.ListN.{length, drop, replicate, length-take}
use Rattle.residue.specs.Chosen.{chosen}
use Rattle.base_rounds.specs.RowOpening.{opening_rows}
use Rattle.base_open.proofs.Writes.{value_input, message_within, begun, length_begun, rounds_input, final_within}
use Rattle.base_open.proofs.write_rows.Goals as goal

pub value-v-requires : goal.value-v-requires
value-v-requires c = let a = c.args in value_input (chosen a.code.now.field) a.depth a.code.now.low a.code.now.k a.code.now.n a.code.now.g.now a.code.now.t.now a.code.now.t2.now a.message.now a.z.now a.r.now _ _ c.requires

pub slice_bounds-copy-end : goal.slice_bounds-copy-end
slice_bounds-copy-end c = let a = c.args in message_within (chosen a.code.now.field) a.depth a.code.now.low a.code.now.k a.code.now.n a.code.now.g.now a.code.now.t.now a.code.now.t2.now a.message.now a.z.now a.r.now _ _ c.requires

pub copy-requires : goal.copy-requires
copy-requires c = let a = c.args in simp length-take (omega (arith, message_within (chosen a.code.now.field) a.depth a.code.now.low a.code.now.k a.code.now.n a.code.now.g.now a.code.now.t.now a.code.now.t2.now a.message.now a.z.now a.r.now _ _ c.requires))

pub all_rounds-requires : goal.all_rounds-requires
all_rounds-requires c =
    let a = c.args in
    let e = (ap (λ v. v ++ drop (length a.message.now) a.work.now) c.copy.ensures) in
    rounds_input (chosen a.code.now.field) a.depth a.code.now.low a.code.now.k a.code.now.n a.code.now.g.now a.code.now.t.now a.code.now.t2.now a.message.now a.z.now a.r.now _ _ c.requires a.work.now _ _ _ e refl (length_begun (chosen a.code.now.field) a.depth a.code.now.low a.code.now.k a.code.now.n a.code.now.g.now a.code.now.t.now a.code.now.t2.now a.message.now a.z.now a.r.now _ _ c.requires a.work.now _ refl e)

pub write_final_value-requires : goal.write_final_value-requires
write_final_value-requires c =
    let a = c.args in
    let e = (ap (λ v. v ++ drop (length a.message.now) a.work.now) c.copy.ensures) in
    final_within (chosen a.code.now.field) a.depth a.code.now.low a.code.now.k a.code.now.n a.code.now.g.now a.code.now.t.now a.code.now.t2.now a.message.now a.z.now a.r.now _ _ c.requires _ _ c.all_rounds.auto.opening (c.all_rounds.auto.work ∙ length_begun (chosen a.code.now.field) a.depth a.code.now.low a.code.now.k a.code.now.n a.code.now.g.now a.code.now.t.now a.code.now.t2.now a.message.now a.z.now a.r.now _ _ c.requires a.work.now _ refl e)

pub returns : goal.returns
returns c =
    let a = c.args in
    let 𝓕 = chosen a.code.now.field in
    let e = (ap (λ v. v ++ drop (length a.message.now) a.work.now) c.copy.ensures) in
    record {
      value = c.value-v.ensures;
      opened =
          c.write_final_value.ensures ∙ c.all_rounds.ensures
          ∙ ap (λ x. opening_rows 𝓕 a.code.now.low a.code.now.k a.code.now.n a.code.now.g.now a.code.now.t.now a.code.now.t2.now x a.z.now a.r.now) (begun (chosen a.code.now.field) a.depth a.code.now.low a.code.now.k a.code.now.n a.code.now.g.now a.code.now.t.now a.code.now.t2.now a.message.now a.z.now a.r.now _ _ c.requires a.work.now _ e);
      cleared = c.clear.ensures ∙ ap (λ x. replicate x 0) (c.all_rounds.auto.work ∙ length_begun (chosen a.code.now.field) a.depth a.code.now.low a.code.now.k a.code.now.n a.code.now.g.now a.code.now.t.now a.code.now.t2.now a.message.now a.z.now a.r.now _ _ c.requires a.work.now _ refl e);
    }
