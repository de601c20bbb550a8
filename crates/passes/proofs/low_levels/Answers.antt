use native.Mathlib.Omega.{arith}
use Rattle.residue.specs.Chosen.{chosen}
use Rattle.residue.specs.Elements.{el}
use Rattle.residue.specs.Scale.{scale}
use Rattle.passes.proofs.LowLevels.{reached_none, reached_length, reached_end, reached_first, reached_second, reached_fits, reached_asks, reached_turn}
use Rattle.passes.proofs.low_levels.Goals as goal

pub message_len-count-requires : goal.message_len-count-requires
message_len-count-requires c =
    let a = c.args in
    c.requires.0

pub loop-level-init : goal.loop-level-init
loop-level-init c =
    let a = c.args in
    reached_none (chosen a.field) (el (chosen a.field) (scale a.field)) a.depth a.g.now a.t.now a.t2.now a.out.now c.requires.1 _ c.message_len-count.ensures

pub overflow_add-end : goal.overflow_add-end
overflow_add-end c =
    let l = c.loop-level in
    let a = c.args in
    let r = reached_first (chosen a.field) (el (chosen a.field) (scale a.field)) a.depth a.g.now a.t.now a.t2.now a.out.now c.requires.1 l.level l.count l.n l.off l.out l.invariant (omega arith) in
    omega arith

pub offset_bounds-t-off : goal.offset_bounds-t-off
offset_bounds-t-off c =
    let l = c.loop-level in
    let a = c.args in
    let r = reached_first (chosen a.field) (el (chosen a.field) (scale a.field)) a.depth a.g.now a.t.now a.t2.now a.out.now c.requires.1 l.level l.count l.n l.off l.out l.invariant (omega arith) in
    omega arith

pub slice_bounds-sweep-end : goal.slice_bounds-sweep-end
slice_bounds-sweep-end c =
    let l = c.loop-level in
    let a = c.args in
    reached_first (chosen a.field) (el (chosen a.field) (scale a.field)) a.depth a.g.now a.t.now a.t2.now a.out.now c.requires.1 l.level l.count l.n l.off l.out l.invariant (omega arith)

pub offset_bounds-t2-off : goal.offset_bounds-t2-off
offset_bounds-t2-off c =
    let l = c.loop-level in
    let a = c.args in
    let r = reached_second (chosen a.field) (el (chosen a.field) (scale a.field)) a.depth a.g.now a.t.now a.t2.now a.out.now c.requires.1 l.level l.count l.n l.off l.out l.invariant (omega arith) in
    omega arith

pub slice_bounds-sweep-end-in-loop-level : goal.slice_bounds-sweep-end-in-loop-level
slice_bounds-sweep-end-in-loop-level c =
    let l = c.loop-level in
    let a = c.args in
    reached_second (chosen a.field) (el (chosen a.field) (scale a.field)) a.depth a.g.now a.t.now a.t2.now a.out.now c.requires.1 l.level l.count l.n l.off l.out l.invariant (omega arith)

pub sweep-requires : goal.sweep-requires
sweep-requires c =
    let l = c.loop-level in
    let a = c.args in
    reached_asks (chosen a.field) (el (chosen a.field) (scale a.field)) a.depth a.g.now a.t.now a.t2.now a.out.now c.requires.1 l.level l.count l.n l.off l.out l.invariant (omega arith)

pub overflow_add-n : goal.overflow_add-n
overflow_add-n c =
    let l = c.loop-level in
    let a = c.args in
    let r = reached_fits (chosen a.field) (el (chosen a.field) (scale a.field)) a.depth a.g.now a.t.now a.t2.now a.out.now c.requires.1 l.level l.count l.n l.off l.out l.invariant (omega arith) in
    omega arith

pub loop-level-preserved : goal.loop-level-preserved
loop-level-preserved c =
    let l = c.loop-level in
    let a = c.args in
    reached_turn (chosen a.field) (el (chosen a.field) (scale a.field)) a.depth a.g.now a.t.now a.t2.now a.out.now c.requires.1 l.level l.count l.n l.off l.out l.invariant (omega arith) _ c.sweep.ensures

pub shape_of-out : goal.shape_of-out
shape_of-out c =
    let l = c.loop-level in
    let a = c.args in
    reached_length (chosen a.field) (el (chosen a.field) (scale a.field)) a.depth a.g.now a.t.now a.t2.now a.out.now c.requires.1 l.level l.count l.n l.off l.out l.invariant

pub returns : goal.returns
returns c =
    let l = c.loop-level in
    let a = c.args in
    reached_end (chosen a.field) (el (chosen a.field) (scale a.field)) a.depth a.g.now a.t.now a.t2.now a.out.now c.requires.1 l.level l.count l.n l.off l.out l.invariant (omega arith)
