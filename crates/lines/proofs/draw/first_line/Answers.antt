use mathlib.Core.Path.{ap, ◌∙◌}
use Rattle.algebra.specs.Words.{𝔽₁}
use Rattle.residue.specs.Elements.{product}
use Rattle.residue.specs.ResidueLaws.{is_low}
use Rattle.lines.proofs.Straight.{line_word}
use borrow.Author.Rules.{rules}
use Rattle.lines.proofs.draw.first_line.Goals as goal

pub times-slope-requires : goal.times-slope-requires
times-slope-requires c = (search rules, is_low 𝔽₁ _ c.difference.ensures)

pub plus_product-requires : goal.plus_product-requires
plus_product-requires c = (search rules, is_low 𝔽₁ _ c.difference-2.ensures, is_low 𝔽₁ _ c.times-slope.ensures)

pub returns : goal.returns
returns c =
    let a = c.args in
    line_word 𝔽₁ a.a.0 a.t.0 a.s a.u.0 a.v.0 c.difference-2.ensures c.difference.ensures (c.times-slope.ensures ∙ ap (λ x. product 𝔽₁ x c.difference.result.0) c.new.ensures) c.plus_product.ensures
