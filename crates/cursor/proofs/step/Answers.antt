use mathlib.Core.Path.{sym, ap, ◌∙◌}
use borrow.Author.Rules.{rules}
use Rattle.numeral.specs.Shown.{shown}
use Rattle.cursor.proofs.Steps.{unread}
use Rattle.cursor.proofs.step.Goals as goal

pub returns-in_err-read : goal.returns-in_err-read
returns-in_err-read c fault =
    let a = c.args in
    unread a.limit fault a.index a.bytes.now a.at c.in_err-read.field-0.0 (sym (ap shown c.in_err-read.was) ∙ c.read_number.ensures) (search rules)
