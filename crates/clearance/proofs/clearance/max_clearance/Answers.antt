use mathlib.Core.Path.{sym, ap}
use lib.IntN.{pos}
use Rattle.residue.specs.Chosen.{chosen}
use Rattle.clearance.specs.Clearances.{max_clearance}
use Rattle.clearance.proofs.clearance.max_clearance.Goals as goal

pub returns-in-First : goal.returns-in-First
returns-in-First c = ap (λ f. pos (max_clearance (chosen f))) (sym c.in-First.is)

pub returns-in-Second : goal.returns-in-Second
returns-in-Second c = ap (λ f. pos (max_clearance (chosen f))) (sym c.in-Second.is)
