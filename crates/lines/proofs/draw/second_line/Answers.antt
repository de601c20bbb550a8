use Rattle.algebra.specs.Words.{𝔽₂}
use Rattle.residue.specs.ResidueLaws.{is_low}
use Rattle.lines.proofs.Loose.{second_word}
use borrow.Author.Rules.{rules}
use Rattle.lines.proofs.draw.second_line.Goals as goal

pub times_loose-slope-requires : goal.times_loose-slope-requires
times_loose-slope-requires c = (search rules, is_low 𝔽₂ _ c.difference.ensures)

pub times_loose-rise-requires : goal.times_loose-rise-requires
times_loose-rise-requires c = (search rules, is_low 𝔽₂ _ c.difference-2.ensures)

pub plus-requires : goal.plus-requires
plus-requires c = (search rules, is_low 𝔽₂ _ c.settled.ensures)

pub returns : goal.returns
returns c =
    let a = c.args in
    second_word a.a.0 a.t.0 a.s a.u.0 a.v.0 c.times_loose-slope.result c.times_loose-rise.result c.difference.ensures c.difference-2.ensures c.times_loose-slope.ensures.1 c.times_loose-rise.ensures.1 c.settled.ensures c.plus.ensures
