use mathlib.Core.Path.{◌≡◌}
use Rattle.hash_path.specs.Climbing.{climbed}
use Rattle.hash_path.proofs.climb.Given as goal

abbrev pub invariant-loop-sibling : goal.invariant-loop-sibling
invariant-loop-sibling l = (l.sibling-iterator.size ≡ 32) × (climbed l.j l.d.bytes l.sibling-iterator.rest.now ≡ climbed l.place l.initial.d.bytes l.path)
