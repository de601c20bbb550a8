use Prim.Native.Nat.{◌+◌, ◌-◌}
use mathlib.Core.List.{◌++◌}
use native.Mathlib.Omega.{arith}
use lib.ListN.{length, take, drop, length-take}
use Rattle.residue.specs.Chosen.{chosen}
use Rattle.base_undo.proofs.Preparing.{some, room, gathering, end_within, prepared}
use Rattle.base_undo.proofs.Undoing.{undoing, first_undone}
use Rattle.base_undo.proofs.column.undo_first.Goals as goal

pub overflow_sub-e : goal.overflow_sub-e
overflow_sub-e c =
    let a = c.args in
    some (chosen a.field) a.depth a.n a.t.now a.t2.now a.block.now a.work.now c.requires.0 c.message_len-q.result c.message_len-q.ensures

pub slice_bounds-gather-end-2 : goal.slice_bounds-gather-end-2
slice_bounds-gather-end-2 c =
    let a = c.args in
    simp length-take (omega (arith, room (chosen a.field) a.depth a.n a.t.now a.t2.now a.block.now a.work.now c.requires.0 c.message_len-q.result c.message_len-q.ensures))

pub gather-requires : goal.gather-requires
gather-requires c =
    let a = c.args in
    gathering (chosen a.field) a.depth a.n a.t.now a.t2.now a.block.now a.work.now c.requires.0 c.message_len-q.result c.message_len-q.ensures

pub slice_bounds-undo-end-2 : goal.slice_bounds-undo-end-2
slice_bounds-undo-end-2 c =
    let a = c.args in
    simp length-take (omega (arith, end_within (chosen a.field) a.depth a.n a.t.now a.t2.now a.block.now a.work.now c.requires.0 c.message_len-q.result c.message_len-q.ensures c.gather.new.out c.gather.auto.out))

pub undo-requires : goal.undo-requires
undo-requires c =
    let a = c.args in
    let q = c.message_len-q.result in
    let en = c.message_len-q.ensures in
    let l = c.gather.new.out in
    let w = take (q + (q - 1)) (l ++ drop q a.work.now) in
    let e = prepared (chosen a.field) a.depth a.n a.t.now a.t2.now a.block.now a.work.now c.requires.0 c.message_len-q.result c.message_len-q.ensures c.gather.new.out c.gather.auto.out c.gather.ensures c.requires.1 in
    undoing (chosen a.field) a.depth a.n a.t.now a.t2.now a.block.now (length a.work.now) c.requires.0 w e q en

pub returns : goal.returns
returns c =
    let a = c.args in
    let q = c.message_len-q.result in
    let en = c.message_len-q.ensures in
    let l = c.gather.new.out in
    let w = take (q + (q - 1)) (l ++ drop q a.work.now) in
    let e = prepared (chosen a.field) a.depth a.n a.t.now a.t2.now a.block.now a.work.now c.requires.0 c.message_len-q.result c.message_len-q.ensures c.gather.new.out c.gather.auto.out c.gather.ensures c.requires.1 in
    first_undone (chosen a.field) a.depth a.n a.t.now a.t2.now a.block.now (length a.work.now) c.requires.0 w e q en _ _ c.undo.auto.w c.undo.ensures
