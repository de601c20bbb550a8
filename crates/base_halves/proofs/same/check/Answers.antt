use mathlib.Core.Path.{sym, ◌∙◌}
use Prim.Native.Nat.{◌-◌}
use native.Mathlib.Omega.{arith}
use Rattle.residue.specs.Chosen.{chosen}
use Rattle.base_halves.proofs.Checking.{made_within, length_made, rest_some, rest_wide, rest_front, rest_room, rest_base, rest_sized, step_down, at_first, at_fails, at_next, at_last}
use Rattle.std.proofs.Common.{ap, not}
use Rattle.base_halves.proofs.same.check.Goals as goal

pub loop-i-init : goal.loop-i-init
loop-i-init c =
    let a = c.args in
    at_first (chosen a.code.now.field) a.level a.code.now.k a.code.now.n a.m a.code.now.g.now a.code.now.t.now a.code.now.t2.now a.work.now c.requires

pub step-requires : goal.step-requires
step-requires c =
    let a = c.args in
    let l = c.loop-i in
    step_down (chosen a.code.now.field) l.i (l.i - 1) a.code.now.k a.code.now.n a.m a.code.now.g.now a.code.now.t.now a.code.now.t2.now l.work (omega arith) l.invariant.lent

pub shape_of-work-then-not-step : goal.shape_of-work-then-not-step
shape_of-work-then-not-step c = c.step.auto.work ∙ c.loop-i.invariant.size

pub returns-then-not-step : goal.returns-then-not-step
returns-then-not-step c =
    let a = c.args in
    let l = c.loop-i in
    let p = c.step in
    at_fails (chosen a.code.now.field) a.level l.i a.code.now.k a.code.now.n a.m a.code.now.g.now a.code.now.t.now a.code.now.t2.now a.work.now l.work l.invariant (l.i - 1) (omega arith) p.result p.new.work p.auto.work p.ensures (ap not c.if-not-step.true)

pub loop-i-preserved : goal.loop-i-preserved
loop-i-preserved c =
    let a = c.args in
    let l = c.loop-i in
    let p = c.step in
    at_next (chosen a.code.now.field) a.level l.i a.code.now.k a.code.now.n a.m a.code.now.g.now a.code.now.t.now a.code.now.t2.now a.work.now l.work l.invariant (l.i - 1) (omega arith) p.result p.new.work p.auto.work p.ensures (ap not c.if-not-step.false)

pub overflow_add-e : goal.overflow_add-e
overflow_add-e c =
    let a = c.args in
    let l = c.loop-i in
    omega (arith, rest_room (chosen a.code.now.field) l.i a.code.now.k a.code.now.n a.m a.code.now.g.now a.code.now.t.now a.code.now.t2.now l.work l.invariant.lent (omega arith))

pub slice_bounds-base_codeword-end : goal.slice_bounds-base_codeword-end
slice_bounds-base_codeword-end c =
    let a = c.args in
    let l = c.loop-i in
    rest_some (chosen a.code.now.field) l.i a.code.now.k a.code.now.n a.m a.code.now.g.now a.code.now.t.now a.code.now.t2.now l.work l.invariant.lent

pub slice_bounds-base_codeword-end-2 : goal.slice_bounds-base_codeword-end-2
slice_bounds-base_codeword-end-2 c =
    let a = c.args in
    let l = c.loop-i in
    sym (rest_front (chosen a.code.now.field) l.i a.code.now.k a.code.now.n a.m a.code.now.g.now a.code.now.t.now a.code.now.t2.now l.work l.invariant.lent)

pub base_codeword-made-requires : goal.base_codeword-made-requires
base_codeword-made-requires c =
    let a = c.args in
    let l = c.loop-i in
    rest_base (chosen a.code.now.field) l.i a.code.now.k a.code.now.n a.m a.code.now.g.now a.code.now.t.now a.code.now.t2.now l.work l.invariant.lent (omega arith)

pub slice_bounds-made-end : goal.slice_bounds-made-end
slice_bounds-made-end c =
    let a = c.args in
    let l = c.loop-i in
    let x = c.base_codeword-made in
    made_within (chosen a.code.now.field) a.code.now.k a.code.now.n a.code.now.g.now l.work x.result (rest_wide (chosen a.code.now.field) l.i a.code.now.k a.code.now.n a.m a.code.now.g.now a.code.now.t.now a.code.now.t2.now l.work l.invariant.lent) x.ensures

pub slice_bounds-same_words-end : goal.slice_bounds-same_words-end
slice_bounds-same_words-end c =
    let a = c.args in
    let l = c.loop-i in
    let x = c.base_codeword-made in
    sym (length_made (chosen a.code.now.field) a.code.now.k a.code.now.n a.code.now.g.now l.work x.result (rest_wide (chosen a.code.now.field) l.i a.code.now.k a.code.now.n a.m a.code.now.g.now a.code.now.t.now a.code.now.t2.now l.work l.invariant.lent) x.ensures)

pub offset_bounds-work-m : goal.offset_bounds-work-m
offset_bounds-work-m c =
    let a = c.args in
    let l = c.loop-i in
    omega (arith, rest_room (chosen a.code.now.field) l.i a.code.now.k a.code.now.n a.m a.code.now.g.now a.code.now.t.now a.code.now.t2.now l.work l.invariant.lent (omega arith))

pub slice_bounds-same_words-end-2 : goal.slice_bounds-same_words-end-2
slice_bounds-same_words-end-2 c =
    let a = c.args in
    let l = c.loop-i in
    rest_room (chosen a.code.now.field) l.i a.code.now.k a.code.now.n a.m a.code.now.g.now a.code.now.t.now a.code.now.t2.now l.work l.invariant.lent (omega arith)

pub same_words-requires : goal.same_words-requires
same_words-requires c =
    let a = c.args in
    let l = c.loop-i in
    let x = c.base_codeword-made in
    rest_sized (chosen a.code.now.field) l.i a.code.now.k a.code.now.n a.m a.code.now.g.now a.code.now.t.now a.code.now.t2.now l.work l.invariant.lent (omega arith) x.result x.ensures

pub shape_of-work : goal.shape_of-work
shape_of-work c = c.loop-i.invariant.size

pub returns : goal.returns
returns c =
    let a = c.args in
    let l = c.loop-i in
    let x = c.base_codeword-made in
    at_last (chosen a.code.now.field) a.level l.i a.code.now.k a.code.now.n a.m a.code.now.g.now a.code.now.t.now a.code.now.t2.now a.work.now l.work l.invariant (omega arith) x.result x.ensures c.same_words.result c.same_words.ensures
