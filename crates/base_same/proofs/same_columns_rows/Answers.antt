use mathlib.Core.Path.{refl, ◌∙◌}
use native.Mathlib.Omega.{arith}
use Rattle.residue.specs.Chosen.{chosen}
use Rattle.base_same.proofs.Comparing.{message_lent, agree_none, agree_turn, agree_end, differs}
use Rattle.std.proofs.Common.{ap, not}
use Rattle.base_same.proofs.same_columns_rows.Goals as goal

pub loop-j-init : goal.loop-j-init
loop-j-init c =
    let a = c.args in
    (refl, refl, agree_none (chosen a.code.now.field) a.depth a.code.now.k a.code.now.n a.code.now.g.now a.code.now.t.now a.code.now.t2.now a.block.now a.work.now c.requires)

pub same_column-requires : goal.same_column-requires
same_column-requires c =
    let a = c.args in
    let l = c.loop-j in
    (message_lent (chosen a.code.now.field) a.depth a.code.now.k a.code.now.n a.code.now.g.now a.code.now.t.now a.code.now.t2.now a.block.now a.work.now c.requires l.work l.invariant.0 l.invariant.1, omega arith)

pub shape_of-work-then-not-same_column : goal.shape_of-work-then-not-same_column
shape_of-work-then-not-same_column c =
    let a = c.args in
    let l = c.loop-j in
    let p = c.same_column in
    p.auto.work ∙ l.invariant.0

pub returns-then-not-same_column : goal.returns-then-not-same_column
returns-then-not-same_column c =
    let a = c.args in
    let l = c.loop-j in
    let p = c.same_column in
    record { answer = differs (chosen a.code.now.field) a.depth a.code.now.k a.code.now.n a.code.now.g.now a.code.now.t.now a.code.now.t2.now a.block.now a.work.now c.requires l.j l.work l.invariant.1 p.result p.ensures.0 (omega arith) (ap not c.if-not-same_column.true); message = p.ensures.1 ∙ l.invariant.1 }

pub loop-j-preserved : goal.loop-j-preserved
loop-j-preserved c =
    let a = c.args in
    let l = c.loop-j in
    let p = c.same_column in
    (p.auto.work ∙ l.invariant.0, p.ensures.1 ∙ l.invariant.1, agree_turn (chosen a.code.now.field) a.depth a.code.now.k a.code.now.n a.code.now.g.now a.code.now.t.now a.code.now.t2.now a.block.now a.work.now c.requires l.j l.work l.invariant.1 p.result p.ensures.0 (ap not c.if-not-same_column.false) l.invariant.2)

pub shape_of-work : goal.shape_of-work
shape_of-work c = c.loop-j.invariant.0

pub returns : goal.returns
returns c =
    let a = c.args in
    let l = c.loop-j in
    record { answer = agree_end (chosen a.code.now.field) a.depth a.code.now.k a.code.now.n a.code.now.g.now a.code.now.t.now a.code.now.t2.now a.block.now a.work.now c.requires l.j (omega arith) l.invariant.2; message = l.invariant.1 }
