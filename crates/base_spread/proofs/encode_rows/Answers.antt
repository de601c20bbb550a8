use mathlib.Core.Path.{sym}
use native.Mathlib.Omega.{arith}
use Rattle.residue.specs.Elements.{el}
use Rattle.residue.specs.Chosen.{chosen}
use Rattle.residue.specs.Scale.{scale}
use Rattle.residue.specs.ScaleLaws.{share, scale_unit}
use Rattle.residue.specs.ResidueLaws.{is_low, stands}
use Rattle.base_spread.proofs.Encoding.{first_length, spreading, loosening, loose_encoded, row_is, one_lent, one_encoded}
use Rattle.base_spread.proofs.encode_rows.Goals as goal

pub encode_row-requires : goal.encode_row-requires
encode_row-requires c =
    let a = c.args in
    (one_lent (chosen a.code.now.field) a.depth a.code.now.k a.code.now.n a.code.now.g.now a.code.now.t.now a.code.now.t2.now a.m.now a.out.now c.requires (omega arith), omega (arith, row_is (chosen a.code.now.field) a.depth a.code.now.k a.code.now.n a.code.now.g.now a.code.now.t.now a.code.now.t2.now a.m.now a.out.now c.requires (omega arith)))

pub returns-then-n-le16 : goal.returns-then-n-le16
returns-then-n-le16 c =
    let a = c.args in
    one_encoded (chosen a.code.now.field) a.depth a.code.now.k a.code.now.n a.code.now.g.now a.code.now.t.now a.code.now.t2.now a.m.now a.out.now c.requires (omega arith) _ c.encode_row.ensures

pub spread_blocks-requires : goal.spread_blocks-requires
spread_blocks-requires c =
    let a = c.args in
    (spreading (chosen a.code.now.field) a.depth a.code.now.k a.code.now.n a.code.now.g.now a.code.now.t.now a.code.now.t2.now a.m.now a.out.now c.requires, is_low (chosen a.code.now.field) _ c.scale_power-f.ensures)

pub slice_bounds-lift_loose-end : goal.slice_bounds-lift_loose-end
slice_bounds-lift_loose-end c =
    let a = c.args in
    sym (first_length (chosen a.code.now.field) a.depth a.code.now.k a.code.now.n a.code.now.g.now a.code.now.t.now a.code.now.t2.now a.m.now a.out.now c.requires)

pub lift_loose-requires : goal.lift_loose-requires
lift_loose-requires c =
    let a = c.args in
    loosening (chosen a.code.now.field) a.depth a.code.now.k a.code.now.n a.code.now.g.now a.code.now.t.now a.code.now.t2.now a.m.now a.out.now c.requires _ _ c.spread_blocks.ensures

pub settle-requires : goal.settle-requires
settle-requires c = c.lift_loose.ensures.loose

pub returns : goal.returns
returns c =
    let a = c.args in
    let f = a.code.now.field in
    loose_encoded (chosen f) a.depth a.code.now.k a.code.now.n a.code.now.g.now a.code.now.t.now a.code.now.t2.now a.m.now a.out.now c.requires _ _ c.spread_blocks.ensures
    (el (chosen f) (scale f)) (share f) (scale_unit f) (stands (chosen f) _ c.scale_power-f.ensures) _ _ c.lift_loose.ensures c.settle.ensures
