use mathlib.Core.Path.{sym, ◌∙◌}
use native.Mathlib.Omega.{arith}
use Rattle.algebra.specs.Filling.{filled_none, filled_turn, filled_end, filled_length}
use Rattle.algebra.specs.WordLists.{modulus_pos}
use Rattle.residue.specs.Chosen.{chosen}
use Rattle.row_sums.proofs.Adding.{length_two, two_at}
use Rattle.row_sums.proofs.Lowering.{low_two, from_none}
use Rattle.row_sums.proofs.two_raised.Goals as goal

pub loop-i-init : goal.loop-i-init
loop-i-init c = (omega arith, omega arith, filled_none _ _)

pub bounds-g-i : goal.bounds-g-i
bounds-g-i c = omega (arith, c.requires.size)

pub bounds-h-i : goal.bounds-h-i
bounds-h-i c = omega (arith, c.requires.size')

pub sum_two-requires : goal.sum_two-requires
sum_two-requires c =
    let p = c.requires in
    (modulus_pos (chosen c.args.field), record { factor = p.factor; word = p.row.low _ (omega (arith, p.size)) }, record { factor = p.factor'; word = p.row'.low _ (omega (arith, p.size')) })

pub loop-i-preserved : goal.loop-i-preserved
loop-i-preserved c =
    let l = c.loop-i in
    let p = filled_turn 0 (omega arith) (length_two (chosen c.args.field) (low_two c.args.field c.requires)) l.invariant.2 (c.sum_two.ensures ∙ from_none c.args.field _ _ _ _ ∙ sym (two_at (chosen c.args.field) (low_two c.args.field c.requires) l.i (omega arith))) in
    (omega arith, filled_length p, p)

pub returns : goal.returns
returns c =
    let l = c.loop-i in
    filled_end (omega arith) (length_two (chosen c.args.field) (low_two c.args.field c.requires)) l.invariant.2
