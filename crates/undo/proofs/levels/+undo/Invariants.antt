use Rattle.undo.proofs.levels.+undo.Given as goal

abbrev pub decreases-undo : goal.decreases-undo
decreases-undo l = l.depth
