use mathlib.Core.Path.{refl}
use mathlib.Core.Bool.{not}
use native.Mathlib.Omega.{arith}
use lib.Dec.{eqb}
use Rattle.algebra.specs.Tests.{all_none, all_turn, all_end}
use Rattle.words.proofs.scan.none_zero.Goals as goal

pub loop-x-init : goal.loop-x-init
loop-x-init c = all_none (λ x. not (eqb x 0)) c.args.s.now

pub loop-x-preserved : goal.loop-x-preserved
loop-x-preserved c = let l = c.loop-x in all_turn (λ x. not (eqb x 0)) l.x-index c.args.s.now 0 (omega arith) l.invariant refl

pub returns : goal.returns
returns c = let l = c.loop-x in all_end (λ x. not (eqb x 0)) l.x-index c.args.s.now (omega arith) l.invariant
