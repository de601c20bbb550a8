use Rattle.std.proofs.Common.{◌≡◌, ◌∙◌, length, arith}
use mathlib.Core.Path.{ap}
use mathlib.Core.Bool.{not}
use borrow.Author.Rules.{rules}
use borrow.Author.Tests.{eq-eqb, ne_eqb}
use Rattle.places.proofs.Passed.{passed_none, passed_turn, passed_stop, passed_end}
use Rattle.places.proofs.first_zero.Goals as goal

pub loop-i-init : goal.loop-i-init
loop-i-init c = passed_none

pub returns-then-w-eq0 : goal.returns-then-w-eq0
returns-then-w-eq0 c = passed_stop c.loop-i.invariant (search rules) (ap not (eq-eqb _ _ c.if-w-eq0.true))

pub loop-i-preserved : goal.loop-i-preserved
loop-i-preserved c = passed_turn c.loop-i.invariant (search rules) (ap not (ne_eqb _ _ c.if-w-eq0.false))

pub returns : goal.returns
returns c = let done : length c.args.s.now ≡ c.loop-i.i = omega arith in done ∙ passed_end c.loop-i.invariant (search rules)
