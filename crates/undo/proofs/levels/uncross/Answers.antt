use mathlib.Core.Path.{refl, sym}
use native.Mathlib.Nat.{zero-mul}
use native.Mathlib.Omega.{arith}
use lib.ListN.{length-set}
use Rattle.residue.specs.Chosen.{chosen}
use Rattle.residue.specs.ResidueLaws.{is_low}
use Rattle.inversion.specs.Strides.{stride_next, stride_within}
use Rattle.undo.proofs.Uncrossing.{uncross_none, uncross_low, uncross_turn, uncross_end}
use Rattle.undo.proofs.levels.uncross.Goals as goal

pub loop-i-init : goal.loop-i-init
loop-i-init c =
    let a = c.args in (omega arith, refl, sym (zero-mul _), uncross_none (chosen a.field) a.n a.a a.c a.t.now a.w.now c.requires)

pub times_gap-r-requires : goal.times_gap-r-requires
times_gap-r-requires c =
    let a = c.args in let l = c.loop-i in let b = c.requires.behind in let e = c.requires.within in let u = uncross_low (chosen a.field) a.n a.a a.c a.t.now a.w.now c.requires l.i l.w (omega arith) l.invariant.3 in (omega arith, omega arith, omega arith)

pub offset_bounds-t-p : goal.offset_bounds-t-p
offset_bounds-t-p c =
    let a = c.args in let l = c.loop-i in let b = c.requires.behind in let e = c.requires.within in let w = stride_within l.i a.c a.n (omega arith) in let f = c.requires.diagonal in let g = c.requires.some in omega arith

pub bounds-t-p : goal.bounds-t-p
bounds-t-p c =
    let a = c.args in let l = c.loop-i in let b = c.requires.behind in let e = c.requires.within in let w = stride_within l.i a.c a.n (omega arith) in let f = c.requires.diagonal in let g = c.requires.some in omega arith

pub minus_product-requires : goal.minus_product-requires
minus_product-requires c =
    let a = c.args in
    let 𝓕 = chosen a.field in
    let l = c.loop-i in
    let w = stride_within l.i a.c a.n (omega arith) in
    let f = c.requires.diagonal in
    let g = c.requires.some in
    let u = uncross_low 𝓕 a.n a.a a.c a.t.now a.w.now c.requires l.i l.w (omega arith) l.invariant.3 in
    let first = c.requires.low.low l.p (omega arith) in
    let slope = is_low 𝓕 _ c.times_gap-r.ensures in
    (omega arith, omega arith, omega arith)

pub bounds-w-k-in-loop-i : goal.bounds-w-k-in-loop-i
bounds-w-k-in-loop-i c =
    let a = c.args in let l = c.loop-i in let b = c.requires.behind in let e = c.requires.within in simp length-set (omega arith)

pub overflow_add-p : goal.overflow_add-p
overflow_add-p c =
    let a = c.args in let l = c.loop-i in let b = c.requires.behind in let e = c.requires.within in let w = stride_within l.i a.c a.n (omega arith) in let f = c.requires.diagonal in let g = c.requires.some in omega arith

pub loop-i-preserved : goal.loop-i-preserved
loop-i-preserved c =
    let a = c.args in let l = c.loop-i in let b = c.requires.behind in let e = c.requires.within in let w = stride_within l.i a.c a.n (omega arith) in let f = c.requires.diagonal in let g = c.requires.some in (
      omega arith,
      simp length-set (omega arith),
      omega (arith, stride_next l.i a.c),
      uncross_turn (chosen a.field) a.n a.a a.c a.t.now a.w.now c.requires l.i l.w (omega arith) l.invariant.3 l.p _ _ l.invariant.2 c.times_gap-r.ensures c.minus_product.ensures,
    )

pub returns : goal.returns
returns c =
    let a = c.args in let l = c.loop-i in let b = c.requires.behind in let e = c.requires.within in uncross_end (chosen a.field) a.n a.a a.c a.t.now a.w.now c.requires l.i l.w (omega arith) l.invariant.3
