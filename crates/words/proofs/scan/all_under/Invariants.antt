use Rattle.std.proofs.Common.{◌≡◌, take}
use lib.Dec.{ltb}
use Rattle.algebra.specs.Tests.{all}
use Rattle.words.proofs.scan.all_under.Given as goal

abbrev pub invariant-loop-w : goal.invariant-loop-w
invariant-loop-w l = l.ok ≡ all (λ x. ltb x l.p) (take l.w-index l.s)
