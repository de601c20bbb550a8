use mathlib.Core.Path.{sym, ap, ◌∙◌}
use Prim.Native.Nat.{◌+◌}
use native.Mathlib.Omega.{arith}
use lib.Seq.{length-take-le}
use Rattle.algebra.specs.WordLists.{to_words}
use Rattle.residue.specs.Chosen.{chosen}
use Rattle.residue.specs.Elements.{el}
use Rattle.residue.specs.Scale.{scale, scale_power}
use Rattle.residue.specs.ScaleLaws.{share, scale_unit}
use Rattle.row_code.proofs.Rows.{row_spreading, row_lifting, row_lifted}
use Rattle.row_code.proofs.encode_row.Goals as goal

pub scaled_row-row-requires : goal.scaled_row-row-requires
scaled_row-row-requires c = (c.requires.0.coding.row, c.requires.1)

pub slice_bounds-row-end : goal.slice_bounds-row-end
slice_bounds-row-end c = omega (arith, c.scaled_row-row.ensures.0, c.requires.1)

pub slice_bounds-spread_loose-end : goal.slice_bounds-spread_loose-end
slice_bounds-spread_loose-end c = sym (length-take-le _ _ (omega (arith, c.scaled_row-row.ensures.0, c.requires.1)))

pub spread_loose-requires : goal.spread_loose-requires
spread_loose-requires c =
    let a = c.args in
    row_spreading (chosen a.field) a.depth a.g.now a.t.now a.t2.now a.m.now a.out.now c.requires.0 (scale_power a.field (a.depth + 1)) _ c.scaled_row-row.ensures.1

pub lift_loose-requires : goal.lift_loose-requires
lift_loose-requires c =
    let a = c.args in
    let p = c.spread_loose in
    row_lifting (chosen a.field) a.depth a.g.now a.t.now a.t2.now a.m.now a.out.now c.requires.0 _ p.auto.out p.ensures.loose

pub settle-requires : goal.settle-requires
settle-requires c = c.lift_loose.ensures.loose

pub returns : goal.returns
returns c =
    let a = c.args in
    let f = a.field in
    c.settle.ensures
    ∙ ap (to_words (chosen f))
    (row_lifted (chosen f) (el (chosen f) (scale f)) (share f) (scale_unit f) a.depth a.g.now a.t.now a.t2.now a.m.now _ _ _ c.scaled_row-row.ensures.1 c.spread_loose.ensures c.lift_loose.ensures)
