use mathlib.Core.Path.{◌≡◌}
use Prim.Native.Nat.{ℕ, ◌*◌, ◌^◌, ◌<◌}
use lib.ListN.{length, take}
use Rattle.residue.specs.Chosen.{chosen}
use Rattle.base_same.proofs.Comparing.{Agrees}
use Rattle.base_same.proofs.same_columns_rows.Given as goal

abbrev pub invariant-loop-j : goal.invariant-loop-j
invariant-loop-j l =
    (length l.work ≡ length l.initial.work) × (take (l.k * 2 ^ l.depth) l.work ≡ take (l.k * 2 ^ l.depth) l.initial.work) × ((a : ℕ) → a < l.j → Agrees (chosen l.code.field) l.depth l.k l.n l.code.g.now l.code.t.now l.code.t2.now l.block l.initial.work a)
