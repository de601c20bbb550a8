use mathlib.Core.Path.{◌≡◌}
use mathlib.Core.Bool.{not}
use lib.ListN.{take}
use Rattle.algebra.specs.Tests.{all}
use Rattle.hash_parts.specs.Queries.{under}
use Rattle.hash_parts.proofs.untouched.Given as goal

abbrev pub invariant-loop-u : goal.invariant-loop-u
invariant-loop-u l = l.ok ≡ all (λ u. not (under l.n l.t l.j u)) (take l.u-index l.queries)
