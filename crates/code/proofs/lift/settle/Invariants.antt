use lib.ListN.{length}
use mathlib.Core.Path.{◌≡◌}
use Rattle.residue.specs.Elements.{K}
use Rattle.residue.specs.Chosen.{chosen}
use Rattle.code.proofs.Settling.{SettledTo}
use Rattle.code.proofs.lift.settle.Given as goal

abbrev pub invariant-loop-w : goal.invariant-loop-w
invariant-loop-w l = (length l.out ≡ length l.initial.out) × SettledTo (chosen l.field) (K (chosen l.field)).𝟙 l.initial.out l.w-index l.out
