use Rattle.std.proofs.Common.{◌≡◌, take, not}
use lib.Dec.{eqb}
use Rattle.algebra.specs.Tests.{all}
use Rattle.words.proofs.scan.none_zero.Given as goal

abbrev pub invariant-loop-x : goal.invariant-loop-x
invariant-loop-x l = l.ok ≡ all (λ x. not (eqb x 0)) (take l.x-index l.s)
