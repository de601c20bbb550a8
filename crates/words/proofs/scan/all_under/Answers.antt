use mathlib.Core.Path.{refl}
use native.Mathlib.Omega.{arith}
use lib.Dec.{ltb}
use Rattle.algebra.specs.Tests.{all_none, all_turn, all_end}
use Rattle.words.proofs.scan.all_under.Goals as goal

pub loop-w-init : goal.loop-w-init
loop-w-init c = all_none (λ x. ltb x c.args.p) c.args.s.now

pub loop-w-preserved : goal.loop-w-preserved
loop-w-preserved c = let l = c.loop-w in all_turn (λ x. ltb x c.args.p) l.w-index c.args.s.now 0 (omega arith) l.invariant refl

pub returns : goal.returns
returns c = let l = c.loop-w in all_end (λ x. ltb x c.args.p) l.w-index c.args.s.now (omega arith) l.invariant
