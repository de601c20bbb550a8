use mathlib.Core.Path.{refl, sym, ◌∙◌}
use Prim.Native.Nat.{◌-◌}
use native.Mathlib.Omega.{arith}
use Rattle.residue.specs.Chosen.{chosen}
use Rattle.base_rounds.proofs.AllRounds.{before_first, room_kept, round_input, before_next, after_last}
use Rattle.base_rounds.proofs.all_rounds.Goals as goal

pub loop-i-init : goal.loop-i-init
loop-i-init c = let a = c.args in before_first (chosen a.code.now.field) a.depth a.code.now.low a.code.now.k a.code.now.n a.code.now.g.now a.code.now.t.now a.code.now.t2.now _ a.z.now a.r.now _ _ c.requires _ refl a.opening.now a.work.now refl refl refl

pub write_round-w-requires : goal.write_round-w-requires
write_round-w-requires c = let a = c.args in let l = c.loop-i in round_input (chosen a.code.now.field) a.depth a.code.now.low a.code.now.k a.code.now.n a.code.now.g.now a.code.now.t.now a.code.now.t2.now _ a.z.now a.r.now _ _ c.requires (l.i - 1) l.i l.w (omega arith) l.opening l.work l.invariant

pub loop-i-preserved : goal.loop-i-preserved
loop-i-preserved c = let a = c.args in let l = c.loop-i in before_next (chosen a.code.now.field) a.depth a.code.now.low a.code.now.k a.code.now.n a.code.now.g.now a.code.now.t.now a.code.now.t2.now _ a.z.now a.r.now _ _ c.requires (l.i - 1) l.i l.w (omega arith) l.opening l.work l.invariant _ _ _ c.write_round-w.ensures

pub shape_of-opening : goal.shape_of-opening
shape_of-opening c = let l = c.loop-i in l.invariant.size ∙ sym c.requires.opens

pub shape_of-work : goal.shape_of-work
shape_of-work c = let a = c.args in let l = c.loop-i in room_kept (chosen a.code.now.field) a.depth a.code.now.low a.code.now.k a.code.now.n a.code.now.g.now a.code.now.t.now a.code.now.t2.now _ a.z.now a.r.now _ _ c.requires l.i l.w l.opening l.work l.invariant

pub returns : goal.returns
returns c = let a = c.args in let l = c.loop-i in after_last (chosen a.code.now.field) a.depth a.code.now.low a.code.now.k a.code.now.n a.code.now.g.now a.code.now.t.now a.code.now.t2.now _ a.z.now a.r.now _ _ c.requires l.i l.w (omega arith) l.opening l.work l.invariant
