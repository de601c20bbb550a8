use mathlib.Core.Path.{refl, ap, ◌∙◌}
use native.Mathlib.Omega.{arith}
use lib.ListN.{get_or}
use Rattle.algebra.specs.WordLists.{modulus_pos}
use Rattle.residue.specs.Chosen.{chosen}
use Rattle.residue.specs.Elements.{sum_product}
use Rattle.base_same.proofs.Writing.{column_none, column_length, column_end, scaled_low, scaled_turn}
use Rattle.base_same.proofs.column.write_scaled.Goals as goal

pub offset_bounds-g-j : goal.offset_bounds-g-j
offset_bounds-g-j c =
    omega (arith, c.requires.column, c.requires.lent.long)

pub bounds-g-j : goal.bounds-g-j
bounds-g-j c =
    omega (arith, c.requires.column, c.requires.lent.long)

pub loop-i-init : goal.loop-i-init
loop-i-init c =
    let a = c.args in
    (omega arith, refl, column_none (chosen a.code.now.field) 1 a.code.now.n a.q a.j a.code.now.g.now a.w.now c.requires)

pub overflow_add-p : goal.overflow_add-p
overflow_add-p c =
    omega (arith, c.requires.room)

pub offset_bounds-w-i : goal.offset_bounds-w-i
offset_bounds-w-i c =
    omega (arith, c.requires.room)

pub bounds-w-i : goal.bounds-w-i
bounds-w-i c =
    let a = c.args in
    let l = c.loop-i in
    omega (arith, column_length (chosen a.code.now.field) 1 a.code.now.n a.q a.j a.code.now.g.now a.w.now c.requires l.i l.i l.w (omega arith) l.invariant.2 (omega arith), c.requires.room)

pub plus_product-requires : goal.plus_product-requires
plus_product-requires c =
    let a = c.args in
    let l = c.loop-i in
    (modulus_pos (chosen a.code.now.field), scaled_low (chosen a.code.now.field) a.code.now.n a.q a.j a.code.now.g.now a.w.now c.requires l.i l.w l.invariant.2 (omega arith), rw l.invariant.1 (c.requires.lent.low.low a.j (omega (arith, c.requires.column, c.requires.lent.long))))

pub offset_bounds-w-p : goal.offset_bounds-w-p
offset_bounds-w-p c =
    omega (arith, c.requires.room)

pub bounds-w-p : goal.bounds-w-p
bounds-w-p c =
    let a = c.args in
    let l = c.loop-i in
    omega (arith, column_length (chosen a.code.now.field) 1 a.code.now.n a.q a.j a.code.now.g.now a.w.now c.requires l.i l.i l.w (omega arith) l.invariant.2 (omega arith), c.requires.room)

pub loop-i-preserved : goal.loop-i-preserved
loop-i-preserved c =
    let a = c.args in
    let l = c.loop-i in
    (omega arith, l.invariant.1, scaled_turn (chosen a.code.now.field) a.code.now.n a.q a.j a.code.now.g.now a.w.now c.requires l.i l.w l.invariant.2 (omega arith) _ (c.plus_product.ensures ∙ ap (λ x. sum_product (chosen a.code.now.field) 0 (get_or l.w l.i 0) x) l.invariant.1))

pub shape_of-w : goal.shape_of-w
shape_of-w c =
    let a = c.args in
    let l = c.loop-i in
    column_length (chosen a.code.now.field) 1 a.code.now.n a.q a.j a.code.now.g.now a.w.now c.requires l.i l.i l.w (omega arith) l.invariant.2 (omega arith)

pub returns : goal.returns
returns c =
    let a = c.args in
    let l = c.loop-i in
    column_end (chosen a.code.now.field) 1 a.code.now.n a.q a.j a.code.now.g.now a.w.now c.requires l.i l.i l.w (omega arith) l.invariant.2 (omega arith) (omega arith)
