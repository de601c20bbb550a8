use mathlib.Core.Path.{◌≡◌, sym, ap, ◌∙◌}
use mathlib.Core.Bool.{not}
use native.Mathlib.Omega.{arith}
use borrow.Author.Tests.{eq-eqb, ne_eqb}
use Rattle.places.proofs.Passed.{passed_none, passed_turn, passed_stop, passed_end}
use Rattle.cursor.specs.Laws.{length_listed}
use Rattle.cursor.proofs.Turns.{after_none, value_turn, after_turn}
use Rattle.file_places.proofs.first_equal.Goals as goal

pub loop-j-init : goal.loop-j-init
loop-j-init c = let a = c.args in (after_none a.bytes.now a.a, after_none a.bytes.now a.b, passed_none)

pub returns-then-e-f : goal.returns-then-e-f
returns-then-e-f c =
    let a = c.args in
    let l = c.loop-j in
    let bs = a.bytes.now in
    let x = value_turn bs a.a l.j l.invariant.0 c.entry_at-e.ensures a.n (omega arith) in
    let y = value_turn bs a.b l.j l.invariant.1 c.entry_at-f.ensures a.n (omega arith) in
    passed_stop l.invariant.2 (omega (arith, length_listed a.n bs a.a, length_listed a.n bs a.b))
    (ap not (eq-eqb _ _ (sym x ∙ c.if-e-f.true ∙ y)))

pub loop-j-preserved : goal.loop-j-preserved
loop-j-preserved c =
    let a = c.args in
    let l = c.loop-j in
    let bs = a.bytes.now in
    let e = c.entry_at-e.ensures in
    let f = c.entry_at-f.ensures in
    let x = value_turn bs a.a l.j l.invariant.0 e a.n (omega arith) in
    let y = value_turn bs a.b l.j l.invariant.1 f a.n (omega arith) in (
      after_turn bs a.a l.j l.invariant.0 e,
      after_turn bs a.b l.j l.invariant.1 f,
      passed_turn l.invariant.2 (omega (arith, length_listed a.n bs a.a, length_listed a.n bs a.b))
          (ap not (ne_eqb _ _ (λ q. c.if-e-f.false (x ∙ q ∙ sym y)))),
    )

pub returns : goal.returns
returns c =
    let a = c.args in
    let bs = a.bytes.now in
    let done : a.n ≡ c.loop-j.j = omega arith in
    done ∙ passed_end c.loop-j.invariant.2 (omega (arith, length_listed a.n bs a.a, length_listed a.n bs a.b))
