use mathlib.Core.Path.{◌∙◌}
use Rattle.residue.specs.Elements.{product}
use Rattle.residue.specs.Chosen.{chosen}
use native.Mathlib.Omega.{arith}
use lib.ListN.{length-set}
use Rattle.undo.proofs.Undoing.{some_words, undo_none, half_before, off_within, uncrossing, undo_left, half_within, undo_right, length_out, undone}
use Rattle.undo.proofs.levels.+undo.Goals as goal

pub bounds-w-0 : goal.bounds-w-0
bounds-w-0 t c = let a = c.args in some_words (chosen a.field) a.depth a.a a.x a.c a.t.now a.w.now c.requires

pub new-requires : goal.new-requires
new-requires t c = let a = c.args in c.requires.block.low 0 (some_words (chosen a.field) a.depth a.a a.x a.c a.t.now a.w.now c.requires)

pub times-requires : goal.times-requires
times-requires t c = let a = c.args in (c.requires.unit, rw c.new.ensures (c.requires.block.low 0 (some_words (chosen a.field) a.depth a.a a.x a.c a.t.now a.w.now c.requires)))

pub bounds-w-0-then-depth-eq0 : goal.bounds-w-0-then-depth-eq0
bounds-w-0-then-depth-eq0 t c = let a = c.args in some_words (chosen a.field) a.depth a.a a.x a.c a.t.now a.w.now c.requires

pub shape_of-w-then-depth-eq0 : goal.shape_of-w-then-depth-eq0
shape_of-w-then-depth-eq0 t c = simp length-set

pub returns-then-depth-eq0 : goal.returns-then-depth-eq0
returns-then-depth-eq0 t c =
    let a = c.args in
    let 𝓕 = chosen a.field in
    undo_none 𝓕 a.depth a.a a.x a.c a.t.now a.w.now c.requires (omega arith) _ (c.word.ensures ∙ c.times.ensures ∙ (λ k. product 𝓕 a.x.0 (c.new.ensures k)))

pub column_half-p-requires : goal.column_half-p-requires
column_half-p-requires t c = let a = c.args in (omega arith, c.requires.depth, c.requires.wide)

pub overflow_add-q : goal.overflow_add-q
overflow_add-q t c =
    let a = c.args in let p = c.column_half-p in let u = (uncrossing (chosen a.field) a.depth a.a a.x a.c a.t.now a.w.now c.requires p.result.half p.result.skip p.result.off p.result.low p.ensures).within in omega arith

pub overflow_sub-b : goal.overflow_sub-b
overflow_sub-b t c =
    let a = c.args in let p = c.column_half-p in half_before (chosen a.field) a.depth a.a a.x a.c a.t.now a.w.now c.requires p.result.half p.result.skip p.result.off p.result.low p.ensures

pub offset_bounds-t-off : goal.offset_bounds-t-off
offset_bounds-t-off t c =
    let a = c.args in let p = c.column_half-p in let u = off_within (chosen a.field) a.depth a.a a.x a.c a.t.now a.w.now c.requires p.result.half p.result.skip p.result.off p.result.low p.ensures in omega arith

pub slice_bounds-uncross-count : goal.slice_bounds-uncross-count
slice_bounds-uncross-count t c =
    let a = c.args in let p = c.column_half-p in off_within (chosen a.field) a.depth a.a a.x a.c a.t.now a.w.now c.requires p.result.half p.result.skip p.result.off p.result.low p.ensures

pub slice_bounds-uncross-start : goal.slice_bounds-uncross-start
slice_bounds-uncross-start t c =
    let a = c.args in let p = c.column_half-p in off_within (chosen a.field) a.depth a.a a.x a.c a.t.now a.w.now c.requires p.result.half p.result.skip p.result.off p.result.low p.ensures

pub uncross-requires : goal.uncross-requires
uncross-requires t c =
    let a = c.args in let p = c.column_half-p in uncrossing (chosen a.field) a.depth a.a a.x a.c a.t.now a.w.now c.requires p.result.half p.result.skip p.result.off p.result.low p.ensures

pub undo-requires : goal.undo-requires
undo-requires t c =
    let a = c.args in let p = c.column_half-p in (omega (arith, p.ensures.low_is, c.decreases), undo_left (chosen a.field) a.depth a.a a.x a.c a.t.now a.w.now c.requires p.result.half p.result.skip p.result.off p.result.low p.ensures c.uncross.new.w c.uncross.auto.w c.uncross.ensures)

pub offset_bounds-w-half : goal.offset_bounds-w-half
offset_bounds-w-half t c =
    let a = c.args in let p = c.column_half-p in let u = half_within (chosen a.field) a.depth a.a a.x a.c a.t.now a.w.now c.requires p.result.half p.result.skip p.result.off p.result.low p.ensures c.uncross.new.w c.uncross.auto.w c.uncross.ensures c.undo.new.w c.undo.auto.w c.undo.ensures in omega arith

pub slice_bounds-undo-count : goal.slice_bounds-undo-count
slice_bounds-undo-count t c =
    let a = c.args in let p = c.column_half-p in half_within (chosen a.field) a.depth a.a a.x a.c a.t.now a.w.now c.requires p.result.half p.result.skip p.result.off p.result.low p.ensures c.uncross.new.w c.uncross.auto.w c.uncross.ensures c.undo.new.w c.undo.auto.w c.undo.ensures

pub slice_bounds-undo-start : goal.slice_bounds-undo-start
slice_bounds-undo-start t c =
    let a = c.args in let p = c.column_half-p in half_within (chosen a.field) a.depth a.a a.x a.c a.t.now a.w.now c.requires p.result.half p.result.skip p.result.off p.result.low p.ensures c.uncross.new.w c.uncross.auto.w c.uncross.ensures c.undo.new.w c.undo.auto.w c.undo.ensures

pub undo-requires-2 : goal.undo-requires-2
undo-requires-2 t c =
    let a = c.args in let p = c.column_half-p in (omega (arith, p.ensures.low_is, c.decreases), undo_right (chosen a.field) a.depth a.a a.x a.c a.t.now a.w.now c.requires p.result.half p.result.skip p.result.off p.result.low p.ensures c.uncross.new.w c.uncross.auto.w c.uncross.ensures c.undo.new.w c.undo.auto.w c.undo.ensures)

pub shape_of-w : goal.shape_of-w
shape_of-w t c =
    let a = c.args in let p = c.column_half-p in length_out (chosen a.field) a.depth a.a a.x a.c a.t.now a.w.now c.requires p.result.half p.result.skip p.result.off p.result.low p.ensures c.uncross.new.w c.uncross.auto.w c.uncross.ensures c.undo.new.w c.undo.auto.w c.undo.ensures c.undo-2.new.w c.undo-2.auto.w

pub returns : goal.returns
returns t c =
    let a = c.args in let p = c.column_half-p in undone (chosen a.field) a.depth a.a a.x a.c a.t.now a.w.now c.requires p.result.half p.result.skip p.result.off p.result.low p.ensures c.uncross.new.w c.uncross.auto.w c.uncross.ensures c.undo.new.w c.undo.auto.w c.undo.ensures c.undo-2.new.w c.undo-2.ensures
