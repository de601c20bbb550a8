use Prim.Native.Nat.{◌*◌, ◌^◌}
use lib.ListN.{take}
use Rattle.residue.specs.Chosen.{chosen}
use Rattle.base_rounds.proofs.AllRounds.{BeforeRound}
use Rattle.base_rounds.proofs.all_rounds.Given as goal

abbrev pub invariant-loop-i : goal.invariant-loop-i
invariant-loop-i l = BeforeRound (chosen l.code.field) l.depth l.code.low l.code.k l.code.n l.code.g.now l.code.t.now l.code.t2.now (take (l.code.k * 2 ^ l.depth) l.initial.work) l.z l.r l.i l.w l.opening l.work
