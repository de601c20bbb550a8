use lib.ListN.{length}
use mathlib.Core.Path.{◌≡◌}
use Rattle.algebra.specs.Words.{𝔽₂}
use Rattle.residue.specs.declared.Field.TheVariants.{Second}
use Rattle.residue.specs.Scale.{scale_power}
use Rattle.code.proofs.Settling.{SettledTo, Factor}
use Rattle.code.proofs.lift.settle_second.Given as goal

abbrev pub invariant-loop-w : goal.invariant-loop-w
invariant-loop-w l = (length l.out ≡ length l.initial.out) × Factor l.depth l.f.0 × SettledTo 𝔽₂ (scale_power Second l.depth) l.initial.out l.w-index l.out
