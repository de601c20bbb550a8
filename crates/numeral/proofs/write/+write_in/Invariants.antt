use Rattle.numeral.proofs.write.+write_in.Given as goal

abbrev pub decreases-write_in : goal.decreases-write_in
decreases-write_in l = l.left
