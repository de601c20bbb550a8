use mathlib.Core.Path.{refl, sym}
use native.Mathlib.Omega.{arith}
use Rattle.residue.specs.ResidueLaws.{is_low}
use Rattle.residue.specs.Chosen.{chosen}
use Rattle.base_matrix.proofs.Cells.{low_cells, first_long, product_lent, no_inverse, with_inverse}
use Rattle.base_matrix.proofs.invert.Goals as goal

pub slice_bounds-product_at-end : goal.slice_bounds-product_at-end
slice_bounds-product_at-end c =
    sym (first_long (chosen c.args.field) c.args.k c.args.n c.args.g.now c.requires)

pub product_at-d-requires : goal.product_at-d-requires
product_at-d-requires c =
    product_lent (chosen c.args.field) c.args.k c.args.n c.args.g.now c.requires c.adjugate-m.ensures

pub returns-then-d-eq0 : goal.returns-then-d-eq0
returns-then-d-eq0 c =
    let a = c.args in
    no_inverse (chosen a.field) a.k a.n a.g.now c.requires c.adjugate-m.ensures refl c.product_at-d.ensures c.if-d-eq0.true

pub divide-requires : goal.divide-requires
divide-requires c =
    let 𝓕 = chosen c.args.field in
    (is_low 𝓕 _ c.product_at-d.ensures, omega arith, low_cells 𝓕 c.args.k c.args.n c.args.g.now c.adjugate-m.ensures)

pub returns : goal.returns
returns c =
    let a = c.args in
    with_inverse (chosen a.field) a.k a.n a.g.now c.requires c.adjugate-m.ensures refl c.product_at-d.ensures c.divide.ensures
    c.if-d-eq0.false
