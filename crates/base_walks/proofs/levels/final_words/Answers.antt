use native.Mathlib.Omega.{arith}
use Rattle.base_walks.proofs.Begins.{part_is}
use Rattle.base_walks.proofs.levels.final_words.Goals as goal

pub overflow_add-end : goal.overflow_add-end
overflow_add-end c = omega (arith, c.final_at-start.ensures, c.requires)

pub offset_bounds-opening-start : goal.offset_bounds-opening-start
offset_bounds-opening-start c = omega (arith, c.final_at-start.ensures, c.requires)

pub slice_bounds-result-end : goal.slice_bounds-result-end
slice_bounds-result-end c = let e = c.final_at-start.ensures in let h = c.requires in omega arith

pub returns : goal.returns
returns c = let a = c.args in part_is a.k _ a.opening.now c.final_at-start.ensures
