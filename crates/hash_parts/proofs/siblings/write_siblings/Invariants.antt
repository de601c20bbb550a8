use mathlib.Core.Path.{◌≡◌}
use Prim.Native.Nat.{◌+◌, ◌*◌, ◌≤◌}
use lib.ListN.{length, drop}
use Rattle.hash_parts.specs.Queries.{put_each, under, other, siblings_put}
use Rattle.hash_parts.proofs.siblings.write_siblings.Given as goal

abbrev pub invariant-loop-u : goal.invariant-loop-u
invariant-loop-u l =
    (length l.out ≡ length l.initial.out) × (l.at + l.slots.stride * length (drop l.u-index l.slots.queries.now) ≤ length l.initial.out + (8 + 32 * l.t))
    × (put_each (under l.n (l.t + 1) l.j) (other l.n l.t l.left l.right) l.slots.stride (drop l.u-index l.slots.queries.now) l.at l.out
    ≡ siblings_put l.left l.right l.n l.t l.j l.slots.queries.now l.slots.first l.slots.stride l.initial.out)
