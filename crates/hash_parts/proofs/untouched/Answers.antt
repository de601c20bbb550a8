use mathlib.Core.Path.{refl}
use mathlib.Core.Bool.{not}
use native.Mathlib.Omega.{arith}
use Rattle.algebra.specs.Tests.{all_none, all_turn, all_end}
use Rattle.hash_parts.specs.Queries.{under}
use Rattle.hash_parts.proofs.untouched.Goals as goal

pub loop-u-init : goal.loop-u-init
loop-u-init c = let a = c.args in all_none (λ u. not (under a.n a.t a.j u)) a.queries.now

pub loop-u-preserved : goal.loop-u-preserved
loop-u-preserved c =
    let l = c.loop-u in
    let a = c.args in
    all_turn (λ u. not (under a.n a.t a.j u)) l.u-index a.queries.now 0 c.loop-u-test.true l.invariant refl

pub returns : goal.returns
returns c = let l = c.loop-u in let a = c.args in all_end (λ u. not (under a.n a.t a.j u)) l.u-index a.queries.now (omega arith) l.invariant
