use mathlib.Core.Path.{sym, ap, ◌∙◌}
use native.Mathlib.Omega.{arith}
use borrow.Author.Rules.{rules}
use Rattle.cursor.specs.Walk.{under}
use Rattle.cursor.specs.Shown.{told}
use Rattle.cursor.proofs.Steps.{walk_turn, walk_stop, walk_end}
use Rattle.cursor.proofs.skim.Goals as goal

pub returns-in_err-here : goal.returns-in_err-here
returns-in_err-here c fault =
    let a = c.args in
    let l = c.loop-k in
    walk_stop (under a.limit fault) a.n a.bytes.now a.at l.here l.k (l.invariant fault) fault c.in_err-here.field-0.0 (omega arith)
    (sym (ap (told fault) c.in_err-here.was) ∙ c.step.ensures fault) (search rules)

pub loop-k-preserved : goal.loop-k-preserved
loop-k-preserved c fault =
    let a = c.args in
    let l = c.loop-k in
    walk_turn (under a.limit fault) a.n a.bytes.now a.at l.here l.k (l.invariant fault) (omega arith) (sym (ap (told fault) c.in_ok-here.was) ∙ c.step.ensures fault)

pub returns : goal.returns
returns c fault =
    let a = c.args in
    let l = c.loop-k in
    walk_end (under a.limit fault) a.n a.bytes.now a.at l.here l.k (l.invariant fault) (omega arith)
