use Rattle.algebra.specs.WordLists.{length_elements}
use Rattle.residue.specs.Chosen.{chosen}
use Rattle.walks.specs.WalkLaws.{left_fails, left_turn, left_end}
use Rattle.std.proofs.lemmas.Result.{err_from_is_err_and}
use mathlib.Core.Path.{refl, sym, ◌∙◌}
use Rattle.base_walks.proofs.folds.folds_rows.Goals as goal

pub loop-q-init : goal.loop-q-init
loop-q-init c = refl

pub returns-in_err-walk : goal.returns-in_err-walk
returns-in_err-walk c =
    let a = c.args in
    let l = c.loop-q in
    let p = err_from_is_err_and c.from_residual.result c.from_residual.ensures.1 in
    rw (p.1, p.2) (left_fails _ _ _ _ _ _ _ _ refl (length_elements (chosen a.code.now.field) a.opened.now.r.now ∙ c.requires.0.challenges) a.queries.now l.q c.loop-q-test.true (c.in_err-walk.ensures) ∙ sym l.invariant)

pub loop-q-preserved : goal.loop-q-preserved
loop-q-preserved c =
    let a = c.args in
    let l = c.loop-q in
    l.invariant ∙ left_turn _ _ _ _ _ _ _ _ refl (length_elements (chosen a.code.now.field) a.opened.now.r.now ∙ c.requires.0.challenges) a.queries.now l.q c.loop-q-test.true (c.in_ok-walk.ensures)

pub returns : goal.returns
returns c =
    let a = c.args in
    let l = c.loop-q in
    left_end _ _ _ a.code.now.n a.opened.now.depth _ _ _ a.queries.now l.q c.loop-q-test.false ∙ sym l.invariant
