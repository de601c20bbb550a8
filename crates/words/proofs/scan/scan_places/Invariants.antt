use mathlib.Core.Bool.{not}
use lib.ListN.{take}
use Rattle.words.specs.Scans.{PlacesScanned}
use Rattle.words.proofs.scan.scan_places.Given as goal

abbrev pub invariant-loop-j : goal.invariant-loop-j
invariant-loop-j l = PlacesScanned l.p (take l.j l.s) (take l.j l.t) (not l.high) (not l.equal)
