use mathlib.Core.Path.{◌≡◌, sym, ap, ◌∙◌}
use mathlib.Core.Bool.{not}
use native.Mathlib.Omega.{arith}
use borrow.Author.Tests.{eq-eqb, ne_eqb}
use Rattle.places.proofs.Passed.{passed_none, passed_turn, passed_stop, passed_end}
use Rattle.cursor.specs.Laws.{length_listed}
use Rattle.cursor.proofs.Turns.{after_none, value_turn, after_turn}
use Rattle.file_places.proofs.first_zero.Goals as goal

pub loop-i-init : goal.loop-i-init
loop-i-init c = let a = c.args in (after_none a.bytes.now a.at, passed_none)

pub returns-then-e-eq0 : goal.returns-then-e-eq0
returns-then-e-eq0 c =
    let a = c.args in
    let l = c.loop-i in
    let bs = a.bytes.now in
    let value = value_turn bs a.at l.i l.invariant.0 c.entry_at-e.ensures a.n (omega arith) in
    passed_stop l.invariant.1 (omega (arith, length_listed a.n bs a.at)) (ap not (eq-eqb _ _ (sym value ∙ c.if-e-eq0.true)))

pub loop-i-preserved : goal.loop-i-preserved
loop-i-preserved c =
    let a = c.args in
    let l = c.loop-i in
    let bs = a.bytes.now in
    let e = c.entry_at-e.ensures in
    let value = value_turn bs a.at l.i l.invariant.0 e a.n (omega arith) in (
      after_turn bs a.at l.i l.invariant.0 e,
      passed_turn l.invariant.1 (omega (arith, length_listed a.n bs a.at)) (ap not (ne_eqb _ _ (λ q. c.if-e-eq0.false (value ∙ q)))),
    )

pub returns : goal.returns
returns c =
    let a = c.args in
    let done : a.n ≡ c.loop-i.i = omega arith in
    done ∙ passed_end c.loop-i.invariant.1 (omega (arith, length_listed a.n a.bytes.now a.at))
