use mathlib.Core.Path.{refl, sym, ap}
use Prim.Native.Nat.{◌*◌}
use native.Mathlib.Omega.{arith}
use Rattle.residue.specs.Chosen.{chosen}
use Rattle.base_block.proofs.Summing.{first_length, four_lent, four_block}
use Rattle.base_block.proofs.block_of_four.Goals as goal

pub new-a-requires : goal.new-a-requires
new-a-requires c = c.requires.0.low.low 0 (omega arith)

pub new-b-requires : goal.new-b-requires
new-b-requires c = c.requires.0.low.low 1 (omega arith)

pub new-c-requires : goal.new-c-requires
new-c-requires c = c.requires.0.low.low 2 (omega arith)

pub new-d-requires : goal.new-d-requires
new-d-requires c = c.requires.0.low.low 3 (omega arith)

pub slice_bounds-four_rows-end : goal.slice_bounds-four_rows-end
slice_bounds-four_rows-end c =
    let a = c.args in
    sym (first_length (chosen a.field) a.n a.g.now a.m.now a.out.now c.requires.0)

pub slice_bounds-four_rows-end-2 : goal.slice_bounds-four_rows-end-2
slice_bounds-four_rows-end-2 c =
    let a = c.args in
    omega (arith, c.requires.0.lent.long, ap (λ k. k * a.n) c.requires.1)

pub slice_bounds-four_rows-end-3 : goal.slice_bounds-four_rows-end-3
slice_bounds-four_rows-end-3 c =
    let a = c.args in
    omega (arith, c.requires.0.lent.long, ap (λ k. k * a.n) c.requires.1)

pub offset_bounds-g-f : goal.offset_bounds-g-f
offset_bounds-g-f c =
    let a = c.args in
    omega (arith, c.requires.0.lent.long, ap (λ k. k * a.n) c.requires.1)

pub slice_bounds-four_rows-end-4 : goal.slice_bounds-four_rows-end-4
slice_bounds-four_rows-end-4 c =
    let a = c.args in
    omega (arith, c.requires.0.lent.long, ap (λ k. k * a.n) c.requires.1)

pub four_rows-requires : goal.four_rows-requires
four_rows-requires c =
    let a = c.args in
    four_lent (chosen a.field) a.n a.g.now a.m.now a.out.now c.requires.0 c.requires.1 c.new-a.ensures c.new-b.ensures c.new-c.ensures c.new-d.ensures refl refl refl

pub returns : goal.returns
returns c =
    let a = c.args in
    four_block (chosen a.field) a.n a.g.now a.m.now a.out.now c.requires.0 c.requires.1 c.new-a.ensures c.new-b.ensures c.new-c.ensures c.new-d.ensures refl refl refl _ c.four_rows.ensures
