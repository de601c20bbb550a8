use mathlib.Core.Path.{refl}
use native.Mathlib.Omega.{arith}
use Rattle.residue.specs.Chosen.{chosen}
use Rattle.base_halves.proofs.Stepping.{room, step_lent, step_first, step_second, front_peel, stepped}
use Rattle.base_halves.proofs.same.step.Goals as goal

pub overflow_add-b : goal.overflow_add-b
overflow_add-b c = let a = c.args in let p = c.level_place-size in omega (arith, room (chosen a.code.now.field) a.low a.code.now.k a.code.now.n a.m a.code.now.g.now a.code.now.t.now a.code.now.t2.now a.work.now c.requires p.result.size p.result.off p.result.end p.ensures)

pub overflow_add-b-2 : goal.overflow_add-b-2
overflow_add-b-2 c = let a = c.args in let p = c.level_place-size in omega (arith, room (chosen a.code.now.field) a.low a.code.now.k a.code.now.n a.m a.code.now.g.now a.code.now.t.now a.code.now.t2.now a.work.now c.requires p.result.size p.result.off p.result.end p.ensures)

pub overflow_add-e : goal.overflow_add-e
overflow_add-e c = let a = c.args in let p = c.level_place-size in omega (arith, room (chosen a.code.now.field) a.low a.code.now.k a.code.now.n a.m a.code.now.g.now a.code.now.t.now a.code.now.t2.now a.work.now c.requires p.result.size p.result.off p.result.end p.ensures)

pub write_right-requires : goal.write_right-requires
write_right-requires c = let a = c.args in let p = c.level_place-size in step_lent (chosen a.code.now.field) a.low a.code.now.k a.code.now.n a.m a.code.now.g.now a.code.now.t.now a.code.now.t2.now a.work.now c.requires p.result.size p.result.off p.result.end p.ensures

pub offset_bounds-t-off : goal.offset_bounds-t-off
offset_bounds-t-off c = let a = c.args in let p = c.level_place-size in omega (arith, step_first (chosen a.code.now.field) a.low a.code.now.k a.code.now.n a.m a.code.now.g.now a.code.now.t.now a.code.now.t2.now a.work.now c.requires p.result.size p.result.off p.result.end p.ensures, p.ensures.end_is)

pub slice_bounds-peel_front-end : goal.slice_bounds-peel_front-end
slice_bounds-peel_front-end c = let a = c.args in let p = c.level_place-size in step_first (chosen a.code.now.field) a.low a.code.now.k a.code.now.n a.m a.code.now.g.now a.code.now.t.now a.code.now.t2.now a.work.now c.requires p.result.size p.result.off p.result.end p.ensures

pub offset_bounds-t2-off : goal.offset_bounds-t2-off
offset_bounds-t2-off c = let a = c.args in let p = c.level_place-size in omega (arith, step_second (chosen a.code.now.field) a.low a.code.now.k a.code.now.n a.m a.code.now.g.now a.code.now.t.now a.code.now.t2.now a.work.now c.requires p.result.size p.result.off p.result.end p.ensures, p.ensures.end_is)

pub slice_bounds-peel_front-end-2 : goal.slice_bounds-peel_front-end-2
slice_bounds-peel_front-end-2 c = let a = c.args in let p = c.level_place-size in step_second (chosen a.code.now.field) a.low a.code.now.k a.code.now.n a.m a.code.now.g.now a.code.now.t.now a.code.now.t2.now a.work.now c.requires p.result.size p.result.off p.result.end p.ensures

pub offset_bounds-work-m : goal.offset_bounds-work-m
offset_bounds-work-m c = let a = c.args in let p = c.level_place-size in omega (arith, room (chosen a.code.now.field) a.low a.code.now.k a.code.now.n a.m a.code.now.g.now a.code.now.t.now a.code.now.t2.now a.work.now c.requires p.result.size p.result.off p.result.end p.ensures)

pub slice_bounds-peel_front-end-3 : goal.slice_bounds-peel_front-end-3
slice_bounds-peel_front-end-3 c = let a = c.args in let p = c.level_place-size in let q = c.write_right in omega (arith, room (chosen a.code.now.field) a.low a.code.now.k a.code.now.n a.m a.code.now.g.now a.code.now.t.now a.code.now.t2.now a.work.now c.requires p.result.size p.result.off p.result.end p.ensures, q.auto.work)

pub peel_front-requires : goal.peel_front-requires
peel_front-requires c = let a = c.args in let p = c.level_place-size in let q = c.write_right in front_peel (chosen a.code.now.field) a.low a.code.now.k a.code.now.n a.m a.code.now.g.now a.code.now.t.now a.code.now.t2.now a.work.now c.requires p.result.size p.result.off p.result.end p.ensures _ q.new.work refl q.auto.work q.ensures

pub returns : goal.returns
returns c = let a = c.args in let p = c.level_place-size in let q = c.write_right in let r = c.peel_front in stepped (chosen a.code.now.field) a.low a.code.now.k a.code.now.n a.m a.code.now.g.now a.code.now.t.now a.code.now.t2.now a.work.now c.requires p.result.size p.result.off p.result.end p.ensures _ q.new.work refl q.auto.work q.ensures r.result r.new.w r.auto.w r.ensures
