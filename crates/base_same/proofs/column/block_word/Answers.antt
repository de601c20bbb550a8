use native.Mathlib.Nat.{zero-mul}
use native.Mathlib.Omega.{arith}
use Rattle.inversion.specs.Strides.{stride_next}
use Rattle.residue.specs.Chosen.{chosen}
use Rattle.base_same.proofs.Writing.{word_none, word_low, entry_within, entry_next, entry_low, word_turn, word_end}
use Rattle.base_same.proofs.column.block_word.Goals as goal

pub loop-b-init : goal.loop-b-init
loop-b-init c =
    let a = c.args in
    (omega arith, omega (arith, zero-mul a.n), word_none (chosen a.field) a.n a.j a.g.now a.m.now c.requires)

pub offset_bounds-g-p : goal.offset_bounds-g-p
offset_bounds-g-p c =
    let a = c.args in
    let l = c.loop-b in
    omega (arith, entry_within (chosen a.field) a.n a.j a.g.now a.m.now c.requires l.b l.s l.p (omega arith) l.invariant.1 l.invariant.2)

pub bounds-g-p : goal.bounds-g-p
bounds-g-p c =
    let a = c.args in
    let l = c.loop-b in
    entry_within (chosen a.field) a.n a.j a.g.now a.m.now c.requires l.b l.s l.p (omega arith) l.invariant.1 l.invariant.2

pub plus_product-s-requires : goal.plus_product-s-requires
plus_product-s-requires c =
    let a = c.args in
    let l = c.loop-b in
    (word_low (chosen a.field) a.n a.j a.g.now a.m.now c.requires l.b l.s l.p (omega arith) l.invariant.1 l.invariant.2, c.requires.low.low l.b (omega arith), entry_low (chosen a.field) a.n a.j a.g.now a.m.now c.requires l.b l.s l.p (omega arith) l.invariant.1 l.invariant.2)

pub overflow_add-p : goal.overflow_add-p
overflow_add-p c =
    let a = c.args in
    let l = c.loop-b in
    omega (arith, entry_next (chosen a.field) a.n a.j a.g.now a.m.now c.requires l.b l.s l.p (omega arith) l.invariant.1 l.invariant.2)

pub loop-b-preserved : goal.loop-b-preserved
loop-b-preserved c =
    let a = c.args in
    let l = c.loop-b in
    (omega arith, omega (arith, l.invariant.1, stride_next l.b a.n), word_turn (chosen a.field) a.n a.j a.g.now a.m.now c.requires l.b l.s l.p (omega arith) l.invariant.1 l.invariant.2 _ c.plus_product-s.ensures)

pub returns : goal.returns
returns c =
    let a = c.args in
    let l = c.loop-b in
    word_end (chosen a.field) a.n a.j a.g.now a.m.now c.requires l.b l.s (omega arith) l.invariant.2
