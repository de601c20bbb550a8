use native.Mathlib.Omega.{arith}
use lib.ListN.{length-take}
use Rattle.residue.specs.Chosen.{chosen}
use Rattle.polynomial.specs.LentLaws.{left_input, right_input}
use Rattle.steps.proofs.Sends.{half_values}
use Rattle.steps.proofs.send.half_values.Goals as goal

pub slice_bounds-value-end : goal.slice_bounds-value-end
slice_bounds-value-end c = simp length-take (omega arith)

pub slice_bounds-value-end-2 : goal.slice_bounds-value-end-2
slice_bounds-value-end-2 c = simp length-take (omega arith)

pub value-requires : goal.value-requires
value-requires c = left_input (chosen c.args.field) c.args.m.now c.args.z.now c.requires.value c.requires.top

pub slice_bounds-value-end-4 : goal.slice_bounds-value-end-4
slice_bounds-value-end-4 c = simp length-take (omega arith)

pub value-requires-2 : goal.value-requires-2
value-requires-2 c = right_input (chosen c.args.field) c.args.m.now c.args.z.now c.requires.value c.requires.top

pub returns : goal.returns
returns c = half_values (chosen c.args.field) c.args.z.now c.args.m.now c.requires _ _ c.value.ensures c.value-2.ensures
