use Prim.Native.Nat.{◌-◌, ◌≤◌}
use Rattle.algebra.specs.Filling.{Filled}
use Rattle.residue.specs.Elements.{elem}
use Rattle.residue.specs.Chosen.{chosen}
use Rattle.steps.specs.Steps.{folded_front}
use Rattle.steps.proofs.fold.fold.Given as goal

abbrev pub invariant-loop-j : goal.invariant-loop-j
invariant-loop-j l = (l.j ≤ l.half) × Filled l.j (folded_front (chosen l.field) (elem (chosen l.field) l.a) l.initial.m) l.initial.m l.m
