use mathlib.Core.Path.{refl}
use native.Mathlib.Omega.{arith}
use Rattle.residue.specs.Chosen.{chosen}
use Rattle.base_halves.proofs.Stepping.{top_lent, top_first, top_second, lent_peel, top_stepped}
use Rattle.base_halves.proofs.same.top_step.Goals as goal

pub write_right-requires : goal.write_right-requires
write_right-requires c = let a = c.args in let p = c.level_place-size in top_lent (chosen a.code.now.field) a.low a.code.now.k a.code.now.n a.m a.code.now.g.now a.code.now.t.now a.code.now.t2.now a.block.now a.work.now c.requires p.result.size p.result.off p.result.end p.ensures

pub offset_bounds-t-off : goal.offset_bounds-t-off
offset_bounds-t-off c = let a = c.args in let p = c.level_place-size in omega (arith, top_first (chosen a.code.now.field) a.low a.code.now.k a.code.now.n a.m a.code.now.g.now a.code.now.t.now a.code.now.t2.now a.block.now a.work.now c.requires p.result.size p.result.off p.result.end p.ensures, p.ensures.end_is)

pub slice_bounds-peel_lent-end : goal.slice_bounds-peel_lent-end
slice_bounds-peel_lent-end c = let a = c.args in let p = c.level_place-size in top_first (chosen a.code.now.field) a.low a.code.now.k a.code.now.n a.m a.code.now.g.now a.code.now.t.now a.code.now.t2.now a.block.now a.work.now c.requires p.result.size p.result.off p.result.end p.ensures

pub offset_bounds-t2-off : goal.offset_bounds-t2-off
offset_bounds-t2-off c = let a = c.args in let p = c.level_place-size in omega (arith, top_second (chosen a.code.now.field) a.low a.code.now.k a.code.now.n a.m a.code.now.g.now a.code.now.t.now a.code.now.t2.now a.block.now a.work.now c.requires p.result.size p.result.off p.result.end p.ensures, p.ensures.end_is)

pub slice_bounds-peel_lent-end-2 : goal.slice_bounds-peel_lent-end-2
slice_bounds-peel_lent-end-2 c = let a = c.args in let p = c.level_place-size in top_second (chosen a.code.now.field) a.low a.code.now.k a.code.now.n a.m a.code.now.g.now a.code.now.t.now a.code.now.t2.now a.block.now a.work.now c.requires p.result.size p.result.off p.result.end p.ensures

pub peel_lent-requires : goal.peel_lent-requires
peel_lent-requires c = let a = c.args in let p = c.level_place-size in let q = c.write_right in lent_peel (chosen a.code.now.field) a.low a.code.now.k a.code.now.n a.m a.code.now.g.now a.code.now.t.now a.code.now.t2.now a.block.now a.work.now c.requires p.result.size p.result.off p.result.end p.ensures _ q.new.work refl q.auto.work q.ensures

pub returns : goal.returns
returns c = let a = c.args in let p = c.level_place-size in let q = c.write_right in let r = c.peel_lent in top_stepped (chosen a.code.now.field) a.low a.code.now.k a.code.now.n a.m a.code.now.g.now a.code.now.t.now a.code.now.t2.now a.block.now a.work.now c.requires p.result.size p.result.off p.result.end p.ensures _ q.new.work refl q.auto.work q.ensures r.result r.new.out r.auto.out r.ensures
