use mathlib.Core.Path.{◌∙◌}
use Rattle.residue.specs.Chosen.{chosen}
use Rattle.base_matrix.proofs.Cells.{no_row, no_column, in_both}
use Rattle.base_matrix.proofs.adjugate.cell.Goals as goal

pub returns-then-k-i : goal.returns-then-k-i
returns-then-k-i c =
    let a = c.args in
    no_row (chosen a.field) a.k a.n a.g.now a.p c.if-k-i.true

pub returns-then-k-j : goal.returns-then-k-j
returns-then-k-j c =
    let a = c.args in
    no_column (chosen a.field) a.k a.n a.g.now a.p c.if-k-i.false c.if-k-j.true

pub returns : goal.returns
returns c =
    let a = c.args in
    in_both (chosen a.field) a.k a.n a.g.now a.p c.if-k-i.false c.if-k-j.false (c.word.ensures ∙ c.cofactor.ensures)
