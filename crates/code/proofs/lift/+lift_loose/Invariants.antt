use Rattle.code.proofs.lift.+lift_loose.Given as goal

abbrev pub decreases-lift_loose : goal.decreases-lift_loose
decreases-lift_loose l = l.depth
