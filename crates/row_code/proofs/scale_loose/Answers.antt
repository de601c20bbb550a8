use mathlib.Core.Path.{sym, ◌∙◌}
use native.Mathlib.Omega.{arith}
use Rattle.residue.specs.Chosen.{chosen}
use Rattle.residue.specs.Elements.{el}
use Rattle.residue.specs.Scale.{scale}
use Rattle.residue.specs.ScaleLaws.{share, scale_unit, room_least, room_most}
use Rattle.row_code.proofs.Rows.{scaled_none, scaled_length, scaled_end, scaled_word, multiple, length_multiple, multiple_at}
use Rattle.row_code.proofs.scale_loose.Goals as goal

pub loop-i-init : goal.loop-i-init
loop-i-init c = (omega arith, omega arith, scaled_none _ _ _ _ _ _)

pub times_loose-requires : goal.times_loose-requires
times_loose-requires c =
    let l = c.loop-i in
    (omega (arith, c.requires.1.low l.i (omega arith), room_least c.args.field), c.requires.0)

pub loop-i-preserved : goal.loop-i-preserved
loop-i-preserved c =
    let l = c.loop-i in
    let a = c.args in
    let f = a.field in
    let 𝓕 = chosen f in
    let k = el 𝓕 (scale f) in
    let v = multiple f a.a.0 a.row.now in
    let n = length_multiple f a.a.0 a.row.now ∙ sym c.requires.2 in
    let r = c.times_loose.ensures in
    let p = scaled_word 𝓕 k (share f) (scale_unit f) v a.out.now n l.invariant.2 (omega arith) (omega (arith, r.0, room_most f)) (multiple_at f a.a.0 a.row.now l.i _ r.1) in
    (omega arith, scaled_length 𝓕 k (share f) (scale_unit f) v a.out.now n p ∙ c.requires.2, p)

pub returns : goal.returns
returns c =
    let l = c.loop-i in
    let a = c.args in
    let f = a.field in
    scaled_end (chosen f) (el (chosen f) (scale f)) (share f) (scale_unit f) _ a.out.now (length_multiple f a.a.0 a.row.now ∙ sym c.requires.2) l.invariant.2 (omega arith)
