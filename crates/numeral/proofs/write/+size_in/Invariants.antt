use Rattle.numeral.proofs.write.+size_in.Given as goal

abbrev pub decreases-size_in : goal.decreases-size_in
decreases-size_in l = l.left
