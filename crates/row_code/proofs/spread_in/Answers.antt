use mathlib.Core.Path.{◌≡◌, refl, sym, ap, ◌∙◌}
use Prim.Native.Nat.{◌+◌, ◌*◌, ◌-◌}
use native.Mathlib.Nat.{zero-mul, suc-mul}
use native.Mathlib.Numerals.{add-one}
use native.Mathlib.Omega.{arith}
use lib.ListN.{length, drop, length-take, length-drop}
use lib.Seq.{length-take-le}
use Rattle.algebra.specs.WordLists.{elements}
use Rattle.residue.specs.Elements.{el}
use Rattle.residue.specs.Chosen.{chosen}
use Rattle.residue.specs.Scale.{scale}
use Rattle.code.specs.Steps.{times}
use Rattle.row_code.proofs.Rows.{scaled_none, scaled_length, scaled_end, scaled_part, blocks, length_blocks, block_at}
use Rattle.residue.specs.ScaleLaws.{share, scale_unit}
use Rattle.code.specs.SpreadLaws.{next_within}
use Rattle.row_code.proofs.spread_in.Goals as goal

pub loop-i-init : goal.loop-i-init
loop-i-init c = (omega arith, sym (zero-mul _), c.requires.size, scaled_none _ _ _ _ _ _)

pub overflow_add-e : goal.overflow_add-e
overflow_add-e c = let l = c.loop-i in let a = c.args in let w = next_within a.m.now a.row.now l.i l.b (omega arith) l.invariant.1 in omega arith

pub new-requires : goal.new-requires
new-requires c = c.requires.message.low _ (omega arith)

pub offset_bounds-out-b : goal.offset_bounds-out-b
offset_bounds-out-b c = let l = c.loop-i in let a = c.args in let w = next_within a.m.now a.row.now l.i l.b (omega arith) l.invariant.1 in omega arith

pub slice_bounds-scale_loose-end : goal.slice_bounds-scale_loose-end
slice_bounds-scale_loose-end c = let l = c.loop-i in let a = c.args in let w = next_within a.m.now a.row.now l.i l.b (omega arith) l.invariant.1 in omega arith

pub scale_loose-requires : goal.scale_loose-requires
scale_loose-requires c = let l = c.loop-i in let a = c.args in let w = next_within a.m.now a.row.now l.i l.b (omega arith) l.invariant.1 in (rw c.new.ensures (c.requires.message.low _ (omega arith)), c.requires.row, simp (length-take, length-drop) (omega arith))

pub loop-i-preserved : goal.loop-i-preserved
loop-i-preserved c =
    let l = c.loop-i in
    let a = c.args in
    let f = a.field in
    let 𝓕 = chosen f in
    let row = a.row.now in
    let w = next_within a.m.now row l.i l.b (omega arith) l.invariant.1 in
    let n = length_blocks 𝓕 a.m.now row ∙ sym c.requires.size in
    let e = l.b + length row in
    let q = c.scale_loose in
    let sized = q.auto.out ∙ length-take-le (e - l.b) (drop l.b l.out) (omega (arith, length-drop l.b l.out)) in
    let is = ap (λ x. times 𝓕 (el 𝓕 x) (elements 𝓕 row)) c.new.ensures ∙ block_at 𝓕 a.m.now row l.i l.b e (omega arith) l.invariant.1 refl in
    let p = scaled_part 𝓕 (el 𝓕 (scale f)) (share f) (scale_unit f) (blocks 𝓕 a.m.now row) a.out.now n l.invariant.3 e _ (omega arith) (omega (arith, c.requires.size)) sized
    (record { loose = q.ensures.loose; stands = q.ensures.stands ∙ is }) in
    (omega arith, omega (arith, suc-mul l.i (length row), ap (λ k. k * length row) (add-one l.i)), scaled_length 𝓕 (el 𝓕 (scale f)) (share f) (scale_unit f) (blocks 𝓕 a.m.now row) a.out.now n p ∙ c.requires.size, p)

pub shape_of-out : goal.shape_of-out
shape_of-out c = let l = c.loop-i in l.invariant.2 ∙ sym c.requires.size

pub returns : goal.returns
returns c =
    let l = c.loop-i in
    let a = c.args in
    let f = a.field in
    let e : l.i ≡ length a.m.now = omega arith in
    scaled_end (chosen f) (el (chosen f) (scale f)) (share f) (scale_unit f) _ a.out.now (length_blocks (chosen f) a.m.now a.row.now ∙ sym c.requires.size) l.invariant.3
    (omega (arith, l.invariant.1, c.requires.size, ap (λ k. k * length a.row.now) e))
