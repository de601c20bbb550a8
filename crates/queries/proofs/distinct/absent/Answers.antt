use mathlib.Core.Path.{refl, ◌∙◌}
use mathlib.Core.Bool.{not}
use native.Mathlib.Omega.{arith}
use lib.Dec.{eqb}
use Rattle.algebra.specs.Tests.{not_or, all_none, all_turn, all_end}
use Rattle.queries.proofs.distinct.absent.Goals as goal

pub loop-w-init : goal.loop-w-init
loop-w-init c = all_none _ c.args.s.now

pub loop-w-preserved : goal.loop-w-preserved
loop-w-preserved c =
    let a = c.args in
    let l = c.loop-w in
    not_or l.found _ ∙ all_turn (λ w. not (eqb w a.x)) l.w-index a.s.now 0 (omega arith) l.invariant refl

pub returns : goal.returns
returns c = let l = c.loop-w in all_end _ l.w-index c.args.s.now (omega arith) l.invariant
