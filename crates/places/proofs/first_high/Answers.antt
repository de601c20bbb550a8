use Rattle.std.proofs.Common.{◌≡◌, ◌∙◌, length, arith}
use borrow.Author.Rules.{rules}
use borrow.Author.Tests.{lt-ltb, le-ltb}
use Rattle.places.proofs.Passed.{passed_none, passed_turn, passed_stop, passed_end}
use Rattle.places.proofs.first_high.Goals as goal

pub loop-k-init : goal.loop-k-init
loop-k-init c = passed_none

pub returns-then-w-bound : goal.returns-then-w-bound
returns-then-w-bound c = passed_stop c.loop-k.invariant (search rules) (le-ltb _ _ c.if-w-bound.true)

pub loop-k-preserved : goal.loop-k-preserved
loop-k-preserved c = passed_turn c.loop-k.invariant (search rules) (lt-ltb _ _ c.if-w-bound.false)

pub returns : goal.returns
returns c = let done : length c.args.s.now ≡ c.loop-k.k = omega arith in done ∙ passed_end c.loop-k.invariant (search rules)
