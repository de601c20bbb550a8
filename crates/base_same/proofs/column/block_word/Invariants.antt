use mathlib.Core.Path.{◌≡◌}
use Prim.Native.Nat.{◌+◌, ◌*◌, ◌≤◌}
use lib.ListN.{length}
use Rattle.residue.specs.Chosen.{chosen}
use Rattle.base_same.proofs.Writing.{WordTo}
use Rattle.base_same.proofs.column.block_word.Given as goal

abbrev pub invariant-loop-b : goal.invariant-loop-b
invariant-loop-b l = (l.b ≤ length l.m) × (l.p ≡ l.j + l.b * l.n) × WordTo (chosen l.field) l.n l.j l.g l.m l.b l.s
