use mathlib.Core.Path.{refl}
use Prim.Native.Nat.{◌+◌, ◌<◌}
use native.Mathlib.Omega.{arith}
use lib.ListN.{length}
use Rattle.algebra.specs.Filling.{filled_none, filled_end, filled_length}
use Rattle.algebra.specs.Parts.{filled_part}
use Rattle.residue.specs.Chosen.{chosen}
use Rattle.base_columns.proofs.Reaching.{reached_none, reached_next}
use Rattle.base_columns.proofs.Solving.{length_solved_blocks, before, in_out, solve_lent, solved_part}
use Rattle.base_columns.proofs.solve_parts.Goals as goal

pub loop-start-init : goal.loop-start-init
loop-start-init c = (reached_none _ _ _ _ _ (omega arith) (omega arith), refl, filled_none _ _)

pub overflow_add-end : goal.overflow_add-end
overflow_add-end c =
    let a = c.args in
    let l = c.loop-start in
    let h : l.start < length a.out.now = omega (arith, l.invariant.1) in
    let w = in_out (chosen a.field) a.k a.m.now a.out.now c.requires l.invariant.0 h in
    omega arith

pub offset_bounds-out-start : goal.offset_bounds-out-start
offset_bounds-out-start c =
    let a = c.args in
    let l = c.loop-start in
    let h : l.start < length a.out.now = omega (arith, l.invariant.1) in
    let w = in_out (chosen a.field) a.k a.m.now a.out.now c.requires l.invariant.0 h in
    omega arith

pub slice_bounds-solve-end : goal.slice_bounds-solve-end
slice_bounds-solve-end c =
    let a = c.args in
    let l = c.loop-start in
    let h : l.start < length a.out.now = omega (arith, l.invariant.1) in
    let w = in_out (chosen a.field) a.k a.m.now a.out.now c.requires l.invariant.0 h in
    omega (arith, l.invariant.1)

pub solve-requires : goal.solve-requires
solve-requires c =
    let a = c.args in
    let l = c.loop-start in
    let h : l.start < length a.out.now = omega (arith, l.invariant.1) in
    solve_lent (chosen a.field) a.k a.m.now a.out.now c.requires l.invariant.0 h l.out l.invariant.2

pub loop-start-smaller : goal.loop-start-smaller
loop-start-smaller c =
    let a = c.args in
    let l = c.loop-start in
    let h : l.start < length a.out.now = omega (arith, l.invariant.1) in
    omega (arith, c.requires.some)

pub loop-start-preserved : goal.loop-start-preserved
loop-start-preserved c =
    let a = c.args in
    let l = c.loop-start in
    let h : l.start < length a.out.now = omega (arith, l.invariant.1) in
    let w = in_out (chosen a.field) a.k a.m.now a.out.now c.requires l.invariant.0 h in
    let p =
    filled_part (l.start + a.k) 0 c.solve.new.b l.invariant.2 (omega arith) w (length_solved_blocks (chosen a.field) a.k a.m.now a.out.now c.requires)
    (solved_part (chosen a.field) a.k a.m.now a.out.now c.requires l.invariant.0 h l.out l.invariant.2 c.solve.ensures) in
    (reached_next l.invariant.0 (before (chosen a.field) a.k a.m.now a.out.now c.requires l.invariant.0 h) _ _ (omega arith) (omega arith), filled_length p, p)

pub shape_of-out : goal.shape_of-out
shape_of-out c = c.loop-start.invariant.1

pub returns : goal.returns
returns c =
    let a = c.args in
    let l = c.loop-start in
    filled_end (omega (arith, l.invariant.1)) (length_solved_blocks (chosen a.field) a.k a.m.now a.out.now c.requires) l.invariant.2

pub returns-2 : goal.returns-2
returns-2 c =
    let a = c.args in
    let l = c.loop-start in
    let h : l.start < length a.out.now = omega (arith, l.invariant.1) in
    let w = in_out (chosen a.field) a.k a.m.now a.out.now c.requires l.invariant.0 h in
    filled_end (omega arith) (length_solved_blocks (chosen a.field) a.k a.m.now a.out.now c.requires)
    (filled_part (l.start + a.k) 0 c.solve.new.b l.invariant.2 (omega arith) w (length_solved_blocks (chosen a.field) a.k a.m.now a.out.now c.requires)
    (solved_part (chosen a.field) a.k a.m.now a.out.now c.requires l.invariant.0 h l.out l.invariant.2 c.solve.ensures))
