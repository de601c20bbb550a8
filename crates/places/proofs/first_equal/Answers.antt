use Rattle.std.proofs.Common.{◌≡◌, ◌∙◌, arith}
use mathlib.Core.Path.{ap}
use mathlib.Core.Bool.{not}
use borrow.Author.Rules.{rules}
use borrow.Author.Tests.{eq-eqb, ne_eqb}
use Rattle.places.proofs.Passed.{passed_none, passed_turn, passed_stop, passed_end}
use Rattle.places.proofs.first_equal.Goals as goal

pub loop-j-init : goal.loop-j-init
loop-j-init c = passed_none

pub returns-then-s-j : goal.returns-then-s-j
returns-then-s-j c = passed_stop c.loop-j.invariant (search rules) (ap not (eq-eqb _ _ c.if-s-j.true))

pub loop-j-preserved : goal.loop-j-preserved
loop-j-preserved c = passed_turn c.loop-j.invariant (search rules) (ap not (ne_eqb _ _ c.if-s-j.false))

pub returns : goal.returns
returns c = let done : c.min-n.result ≡ c.loop-j.j = omega arith in done ∙ passed_end c.loop-j.invariant (search rules)
