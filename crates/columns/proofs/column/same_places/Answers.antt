use mathlib.Core.Path.{◌∙◌}
use Prim.Native.Nat.{◌<◌}
use native.Mathlib.Nat.{zero-mul, mul_comm}
use native.Mathlib.Omega.{arith}
use lib.Dec.{eqb}
use lib.ListN.{length}
use Rattle.algebra.specs.Words.{𝔽₁}
use Rattle.algebra.specs.Tests.{all₂_none, all₂_end}
use Rattle.foldable.specs.Every.{every}
use Rattle.columns.proofs.Loops.{place_in, next_place, same_turn}
use Rattle.columns.proofs.column.same_places.Goals as goal

pub loop-i-init : goal.loop-i-init
loop-i-init c = (omega arith, omega (arith, zero-mul c.args.c), all₂_none eqb c.args.w.now (every 0 c.args.c c.args.j (length c.args.w.now) c.args.block.now))

pub offset_bounds-block-p : goal.offset_bounds-block-p
offset_bounds-block-p c =
    let a = c.args in
    let l = c.loop-i in
    let m = length a.w.now in
    let e = c.requires.2 ∙ mul_comm a.c m in
    let h : l.i < m = omega arith in
    let u = place_in 𝔽₁ m a.j a.c a.block.now (omega (arith, c.requires.0)) l.i l.p h l.invariant.1 in
    omega arith

pub bounds-block-p : goal.bounds-block-p
bounds-block-p c =
    let a = c.args in
    let l = c.loop-i in
    let m = length a.w.now in
    let e = c.requires.2 ∙ mul_comm a.c m in
    let h : l.i < m = omega arith in
    let u = place_in 𝔽₁ m a.j a.c a.block.now (omega (arith, c.requires.0)) l.i l.p h l.invariant.1 in
    omega arith

pub overflow_add-p : goal.overflow_add-p
overflow_add-p c =
    let a = c.args in
    let l = c.loop-i in
    let m = length a.w.now in
    let e = c.requires.2 ∙ mul_comm a.c m in
    let h : l.i < m = omega arith in
    let u = place_in 𝔽₁ m a.j a.c a.block.now (omega (arith, c.requires.0)) l.i l.p h l.invariant.1 in
    let w = c.requires.1 in
    omega arith

pub loop-i-preserved : goal.loop-i-preserved
loop-i-preserved c =
    let a = c.args in
    let l = c.loop-i in
    (omega arith, next_place a.j l.i a.c l.p l.invariant.1, same_turn a.j a.c a.block.now a.w.now l.i l.p (omega arith) l.invariant.1 l.invariant.2)

pub returns : goal.returns
returns c =
    let a = c.args in
    let l = c.loop-i in
    all₂_end eqb l.i a.w.now (every 0 a.c a.j (length a.w.now) a.block.now) (λ x y. omega arith) l.invariant.2
