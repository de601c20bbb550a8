use Rattle.walks.specs.WalkLaws.{start_below, walking_none, walking_fails, walking_turn, walking_end}
use native.Mathlib.Omega.{arith}
use Rattle.algebra.specs.Flags.{passes, fails}
use Rattle.std.proofs.Common.{ap, not}
use Rattle.base_walks.proofs.folds.walk.Goals as goal

pub loop-i-init : goal.loop-i-init
loop-i-init c = let a = c.args in walking_none _ _ _ a.code.now.n a.opened.now.depth _ _ _ a.q a.u c.requires.1

pub fold_holds-requires : goal.fold_holds-requires
fold_holds-requires c = let a = c.args in let l = c.loop-i in (c.requires.0, omega (arith, l.invariant.left), start_below _ l.i l.at (omega arith) l.invariant.start)

pub returns-then-not-fold_holds : goal.returns-then-not-fold_holds
returns-then-not-fold_holds c = let a = c.args in let l = c.loop-i in walking_fails _ _ _ _ _ _ _ _ a.q a.u l.i l.at (omega arith) l.invariant (fails c.fold_holds.ensures (ap not c.if-not-fold_holds.true))

pub next-at-requires : goal.next-at-requires
next-at-requires c = (omega (arith, c.requires.0.sizes.depth, c.loop-i.invariant.left), c.requires.0.sizes.wide)

pub loop-i-preserved : goal.loop-i-preserved
loop-i-preserved c = let a = c.args in let l = c.loop-i in walking_turn _ _ _ _ _ _ _ _ a.q a.u l.i l.at _ (omega arith) l.invariant (passes c.fold_holds.ensures (ap not c.if-not-fold_holds.false)) c.next-at.ensures

pub returns : goal.returns
returns c = let a = c.args in let l = c.loop-i in walking_end _ _ _ _ _ _ _ _ a.q a.u l.i l.at (λ h. omega arith) l.invariant
