use mathlib.Core.Path.{refl}
use native.Mathlib.Nat.{zero-mul}
use native.Mathlib.Omega.{arith}
use lib.ListN.{length-set}
use Rattle.residue.specs.Chosen.{chosen}
use Rattle.columns.proofs.Loops.{next_place, places_in, places_low, up_to_none, up_to_length, halves_low, up_to_turn, up_to_end}
use Rattle.columns.proofs.column.cross.Goals as goal

pub loop-i-init : goal.loop-i-init
loop-i-init c =
    let a = c.args in
    (omega arith, refl, omega (arith, zero-mul a.c), up_to_none (chosen a.field) a.n a.a a.c a.t.now a.t2.now a.w.now c.requires)

pub offset_bounds-t-p : goal.offset_bounds-t-p
offset_bounds-t-p c =
    let a = c.args in
    let l = c.loop-i in
    let u = places_in (chosen a.field) a.n a.a a.c a.t.now a.t2.now a.w.now c.requires l.i l.p (omega arith) l.invariant.2 in
    omega arith

pub bounds-t-p : goal.bounds-t-p
bounds-t-p c =
    let a = c.args in
    let l = c.loop-i in
    let u = places_in (chosen a.field) a.n a.a a.c a.t.now a.t2.now a.w.now c.requires l.i l.p (omega arith) l.invariant.2 in
    omega arith

pub plus_product-u-requires : goal.plus_product-u-requires
plus_product-u-requires c =
    let a = c.args in
    let 𝓕 = chosen a.field in
    let l = c.loop-i in
    let u = places_low 𝓕 a.n a.a a.c a.t.now a.t2.now a.w.now c.requires l.i l.p (omega arith) l.invariant.2 in
    let b = halves_low 𝓕 a.n a.a a.c a.t.now a.t2.now a.w.now c.requires l.i l.w l.invariant.3 (omega arith) in
    (omega arith, omega arith, omega arith)

pub offset_bounds-t2-p : goal.offset_bounds-t2-p
offset_bounds-t2-p c =
    let a = c.args in
    let l = c.loop-i in
    let u = places_in (chosen a.field) a.n a.a a.c a.t.now a.t2.now a.w.now c.requires l.i l.p (omega arith) l.invariant.2 in
    omega arith

pub bounds-t2-p : goal.bounds-t2-p
bounds-t2-p c =
    let a = c.args in
    let l = c.loop-i in
    let u = places_in (chosen a.field) a.n a.a a.c a.t.now a.t2.now a.w.now c.requires l.i l.p (omega arith) l.invariant.2 in
    omega arith

pub plus_product-v-requires : goal.plus_product-v-requires
plus_product-v-requires c =
    let a = c.args in
    let 𝓕 = chosen a.field in
    let l = c.loop-i in
    let u = places_low 𝓕 a.n a.a a.c a.t.now a.t2.now a.w.now c.requires l.i l.p (omega arith) l.invariant.2 in
    let b = halves_low 𝓕 a.n a.a a.c a.t.now a.t2.now a.w.now c.requires l.i l.w l.invariant.3 (omega arith) in
    (omega arith, omega arith, omega arith)

pub bounds-w-k-in-loop-i : goal.bounds-w-k-in-loop-i
bounds-w-k-in-loop-i c = simp length-set (omega arith)

pub overflow_add-p : goal.overflow_add-p
overflow_add-p c =
    let a = c.args in
    let l = c.loop-i in
    let u = places_in (chosen a.field) a.n a.a a.c a.t.now a.t2.now a.w.now c.requires l.i l.p (omega arith) l.invariant.2 in
    let w = c.requires.wide in
    omega arith

pub loop-i-preserved : goal.loop-i-preserved
loop-i-preserved c =
    let a = c.args in
    let 𝓕 = chosen a.field in
    let l = c.loop-i in
    let q = up_to_turn 𝓕 a.n a.a a.c a.t.now a.t2.now a.w.now c.requires l.i l.w l.invariant.3 l.p _ _ (omega arith) l.invariant.2 c.plus_product-u.ensures c.plus_product-v.ensures in
    (omega arith, up_to_length 𝓕 a.n a.a a.c a.t.now a.t2.now a.w.now c.requires _ _ q, next_place a.a l.i a.c l.p l.invariant.2, q)

pub returns : goal.returns
returns c =
    let a = c.args in
    let l = c.loop-i in
    up_to_end (chosen a.field) a.n a.a a.c a.t.now a.t2.now a.w.now c.requires l.i l.w l.invariant.3 (omega arith)
