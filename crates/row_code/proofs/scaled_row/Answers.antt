use mathlib.Core.Path.{refl, sym, ◌∙◌}
use lib.Seq.{take_at, length-take-le}
use lib.ListN.{length}
use Rattle.residue.specs.Chosen.{chosen}
use Rattle.residue.specs.ResidueLaws.{is_low}
use Rattle.row_code.proofs.Rows.{row_length, scaled_is}
use Rattle.row_code.proofs.scaled_row.Goals as goal

pub slice_bounds-scale-end : goal.slice_bounds-scale-end
slice_bounds-scale-end c = sym (length-take-le _ _ c.requires.1)

pub scale-requires : goal.scale-requires
scale-requires c =
    (is_low (chosen c.args.field) _ c.factor-f.ensures, c.requires.0, length-take-le _ _ c.requires.1)

pub returns : goal.returns
returns c =
    let a = c.args in
    let p = c.scale in
    let sized = p.auto.out ∙ length-take-le _ _ c.requires.1 in
    let r = p.new.out in
    (row_length (length a.g.now) r _ sized c.requires.1 refl, take_at r _ (length a.g.now) sized ∙ p.ensures ∙ scaled_is a.field a.depth a.g.now c.factor-f.ensures)
