use native.Mathlib.Omega.{arith}
use lib.ListN.{length-take, length-drop}
use Rattle.base_steps.proofs.RowPlaces.{final_given}
use Rattle.base_steps.proofs.write_final_value.Goals as goal

pub slice_bounds-copy-end : goal.slice_bounds-copy-end
slice_bounds-copy-end c = simp length-take (omega (arith, c.requires.1))

pub copy-requires : goal.copy-requires
copy-requires c = simp (length-take, length-drop) (omega (arith, c.requires.0, c.requires.1, c.final_at-at.ensures))

pub returns : goal.returns
returns c = let a = c.args in final_given a.depth a.k _ a.opening.now a.work.now _ c.requires.1 c.final_at-at.ensures c.copy.ensures
