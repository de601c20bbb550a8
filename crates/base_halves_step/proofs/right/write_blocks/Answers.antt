use mathlib.Core.Path.{refl, sym}
use native.Mathlib.Omega.{arith}
use Rattle.residue.specs.Chosen.{chosen}
use Rattle.base_halves_step.proofs.Spreading.{right_lent, ends, row_length, lift_lent, written}
use Rattle.base_halves_step.proofs.right.write_blocks.Goals as goal

pub spread_right-requires : goal.spread_right-requires
spread_right-requires c =
    let a = c.args in
    let m = c.message_len-q in
    right_lent (chosen a.code.now.field) a.level a.code.now.k a.code.now.n a.b a.code.now.g.now a.code.now.t.now a.code.now.t2.now a.work.now c.requires m.result m.ensures

pub overflow_mul-e : goal.overflow_mul-e
overflow_mul-e c =
    let a = c.args in
    let m = c.message_len-q in
    let p = c.spread_right in
    omega (arith, ends (chosen a.code.now.field) a.level a.code.now.k a.code.now.n a.b a.code.now.g.now a.code.now.t.now a.code.now.t2.now a.work.now c.requires m.result m.ensures _ p.new.work refl p.auto.work p.ensures, p.auto.work)

pub overflow_add-e : goal.overflow_add-e
overflow_add-e c =
    let a = c.args in
    let m = c.message_len-q in
    let p = c.spread_right in
    omega (arith, ends (chosen a.code.now.field) a.level a.code.now.k a.code.now.n a.b a.code.now.g.now a.code.now.t.now a.code.now.t2.now a.work.now c.requires m.result m.ensures _ p.new.work refl p.auto.work p.ensures, p.auto.work)

pub slice_bounds-lift-end : goal.slice_bounds-lift-end
slice_bounds-lift-end c =
    let a = c.args in
    let m = c.message_len-q in
    let p = c.spread_right in
    sym (row_length (chosen a.code.now.field) a.level a.code.now.k a.code.now.n a.b a.code.now.g.now a.code.now.t.now a.code.now.t2.now a.work.now c.requires m.result m.ensures _ p.new.work refl p.auto.work p.ensures)

pub slice_bounds-lift-end-2 : goal.slice_bounds-lift-end-2
slice_bounds-lift-end-2 c =
    let a = c.args in
    let m = c.message_len-q in
    let p = c.spread_right in
    (ends (chosen a.code.now.field) a.level a.code.now.k a.code.now.n a.b a.code.now.g.now a.code.now.t.now a.code.now.t2.now a.work.now c.requires m.result m.ensures _ p.new.work refl p.auto.work p.ensures).1

pub lift-requires : goal.lift-requires
lift-requires c =
    let a = c.args in
    let m = c.message_len-q in
    let p = c.spread_right in
    lift_lent (chosen a.code.now.field) a.level a.code.now.k a.code.now.n a.b a.code.now.g.now a.code.now.t.now a.code.now.t2.now a.work.now c.requires m.result m.ensures _ p.new.work refl p.auto.work p.ensures

pub returns : goal.returns
returns c =
    let a = c.args in
    let m = c.message_len-q in
    let p = c.spread_right in
    let q = c.lift in
    written (chosen a.code.now.field) a.level a.code.now.k a.code.now.n a.b a.code.now.g.now a.code.now.t.now a.code.now.t2.now a.work.now c.requires m.result m.ensures _ p.new.work refl p.auto.work p.ensures q.new.out q.auto.out q.ensures
