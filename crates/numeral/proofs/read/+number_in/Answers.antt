use mathlib.Core.Path.{sym, ap, ◌∙◌}
use native.Mathlib.Omega.{arith}
use borrow.Author.Rules.{rules}
use Rattle.numeral.specs.Shown.{shown}
use Rattle.numeral.proofs.Joins.{faulty, none_left, past_end, last_byte, more_bytes}
use Rattle.numeral.proofs.read.+number_in.Goals as goal

pub returns-then-left-eq0 : goal.returns-then-left-eq0
returns-then-left-eq0 t c = let a = c.args in none_left a.left a.bytes.now a.at c.if-left-eq0.true

pub returns-then-at-bytes : goal.returns-then-at-bytes
returns-then-at-bytes t c = let a = c.args in past_end a.left a.bytes.now a.at c.if-left-eq0.false c.if-at-bytes.true

pub returns-then-b-lt128 : goal.returns-then-b-lt128
returns-then-b-lt128 t c = let a = c.args in last_byte a.left a.bytes.now a.at (omega arith) (omega arith) (omega arith)

pub returns-in_err-rest : goal.returns-in_err-rest
returns-in_err-rest t c =
    let a = c.args in
    more_bytes a.left a.bytes.now a.at (omega arith) (omega arith) (omega arith) (sym (ap shown c.in_err-rest.was) ∙ c.number_in.ensures)
    (faulty _ _ (search rules))

pub returns : goal.returns
returns t c =
    let a = c.args in
    more_bytes a.left a.bytes.now a.at (omega arith) (omega arith) (omega arith) (sym (ap shown c.in_ok-rest.was) ∙ c.number_in.ensures) c.join.ensures
