use mathlib.Core.Path.{sym, ◌∙◌}
use native.Mathlib.Omega.{arith}
use Rattle.algebra.specs.Lists.{length_row, get_or_row}
use Rattle.algebra.specs.Filling.{filled_none, filled_turn, filled_end, filled_length}
use Rattle.residue.specs.Chosen.{chosen}
use Rattle.base_matrix.proofs.Products.{solved_row}
use Rattle.base_matrix.proofs.product.times_into.Goals as goal

pub loop-j-init : goal.loop-j-init
loop-j-init c = (omega arith, omega arith, filled_none _ _)

pub product_at-requires : goal.product_at-requires
product_at-requires c =
    let 𝓣 = c.requires in
    record { few = 𝓣.few; column = omega arith; sixteen = 𝓣.sixteen; low = 𝓣.low; low_matrix = 𝓣.low_matrix }

pub loop-j-preserved : goal.loop-j-preserved
loop-j-preserved c =
    let l = c.loop-j in
    let p = filled_turn 0 (omega arith) (length_row _ _ ∙ sym c.requires.long) l.invariant.2 (c.product_at.ensures ∙ sym (get_or_row _ _ l.j 0 (omega arith))) in
    (omega arith, omega (arith, filled_length p), p)

pub returns : goal.returns
returns c =
    let l = c.loop-j in
    let a = c.args in
    filled_end (omega arith) (length_row _ _ ∙ sym c.requires.long) l.invariant.2 ∙ solved_row (chosen a.field) a.v.now a.m.now c.requires.few c.requires.sixteen
