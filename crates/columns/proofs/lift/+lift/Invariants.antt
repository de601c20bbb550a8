use Rattle.columns.proofs.lift.+lift.Given as goal

abbrev pub decreases-lift : goal.decreases-lift
decreases-lift l = l.depth
