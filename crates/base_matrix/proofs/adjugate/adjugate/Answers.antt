use mathlib.Core.Path.{refl, sym, ◌∙◌}
use native.Mathlib.Omega.{arith}
use lib.ListN.{length-set}
use Rattle.algebra.specs.Lists.{length_row, get_or_row}
use Rattle.algebra.specs.Filling.{filled_none, filled_turn, filled_end}
use Rattle.base_matrix.proofs.adjugate.adjugate.Goals as goal

pub loop-p-init : goal.loop-p-init
loop-p-init c = (omega arith, refl, filled_none _ _)

pub loop-p-preserved : goal.loop-p-preserved
loop-p-preserved c =
    let l = c.loop-p in
    (omega arith, simp length-set l.invariant.1, filled_turn 0 (omega arith) (length_row 16 _) l.invariant.2 (c.cell.ensures ∙ sym (get_or_row 16 _ l.p 0 (omega arith))))

pub returns : goal.returns
returns c = let l = c.loop-p in filled_end (omega arith) (length_row 16 _) l.invariant.2
