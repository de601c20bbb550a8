use mathlib.Core.Path.{refl, sym, ap}
use Prim.Native.Nat.{◌*◌}
use native.Mathlib.Omega.{arith}
use Rattle.residue.specs.Chosen.{chosen}
use Rattle.base_block.proofs.Summing.{first_length, two_lent, two_block}
use Rattle.base_block.proofs.block_of_two.Goals as goal

pub new-a-requires : goal.new-a-requires
new-a-requires c = c.requires.0.low.low 0 (omega arith)

pub new-b-requires : goal.new-b-requires
new-b-requires c = c.requires.0.low.low 1 (omega arith)

pub slice_bounds-two_rows-end : goal.slice_bounds-two_rows-end
slice_bounds-two_rows-end c =
    let a = c.args in
    sym (first_length (chosen a.field) a.n a.g.now a.m.now a.out.now c.requires.0)

pub slice_bounds-two_rows-end-2 : goal.slice_bounds-two_rows-end-2
slice_bounds-two_rows-end-2 c =
    let a = c.args in
    omega (arith, c.requires.0.lent.long, ap (λ k. k * a.n) c.requires.1)

pub two_rows-requires : goal.two_rows-requires
two_rows-requires c =
    let a = c.args in
    two_lent (chosen a.field) a.n a.g.now a.m.now a.out.now c.requires.0 c.requires.1 c.new-a.ensures c.new-b.ensures refl

pub returns : goal.returns
returns c =
    let a = c.args in
    two_block (chosen a.field) a.n a.g.now a.m.now a.out.now c.requires.0 c.requires.1 c.new-a.ensures c.new-b.ensures refl _ c.two_rows.ensures
