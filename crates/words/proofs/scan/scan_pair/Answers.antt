use mathlib.Core.Path.{sym}
use native.Mathlib.Omega.{arith}
use Rattle.residue.specs.Chosen.{chosen}
use Rattle.words.specs.ScanLaws.{pair_scanned}
use Rattle.words.proofs.scan.scan_pair.Goals as goal

pub returns : goal.returns
returns c =
    let a = c.args in
    pair_scanned (chosen a.field) _ _ a.s.now a.t.now c.modulus-p.ensures (omega arith) (omega arith) (omega arith) (rw (sym c.modulus-p.ensures) at c.scan_known-places.ensures) c.all_under-first.ensures c.all_under-second.ensures
