use mathlib.Core.Path.{◌≡◌}
use mathlib.Core.Bool.{true}
use Prim.Native.Nat.{◌+◌, ◌*◌, ◌%◌, ◌≤◌}
use lib.ListN.{length, drop}
use Rattle.hash_parts.specs.Queries.{leaf_bytes, put_each, leaves, words_put}
use Rattle.hash_parts.proofs.leaf_words.write_words.Given as goal

abbrev pub invariant-loop-u : goal.invariant-loop-u
invariant-loop-u l =
    (length l.out ≡ length l.initial.out) × (l.at + l.slots.stride * length (drop l.u-index l.slots.queries.now) ≤ length l.initial.out)
    × (put_each (λ u. true) (λ u. leaf_bytes (leaves l.block) l.block (u % leaves l.block)) l.slots.stride (drop l.u-index l.slots.queries.now) l.at l.out
    ≡ words_put l.block l.slots.queries.now l.slots.first l.slots.stride l.initial.out)
