use native.Mathlib.Omega.{arith}
use Rattle.residue.specs.Chosen.{chosen}
use Rattle.base_checks.proofs.Products.{within, summed_none, summed_low, summed_turn, summed_end}
use Rattle.base_checks.proofs.base.word_at.Goals as goal

pub loop-b-init : goal.loop-b-init
loop-b-init c = (omega arith, summed_none _ _ _ _ _)

pub overflow_mul-b : goal.overflow_mul-b
overflow_mul-b c = omega (arith, within (chosen c.args.field) {b = c.loop-b.b} c.requires (omega arith))

pub offset_bounds-g-b : goal.offset_bounds-g-b
offset_bounds-g-b c = omega (arith, within (chosen c.args.field) {b = c.loop-b.b} c.requires (omega arith))

pub bounds-g-b : goal.bounds-g-b
bounds-g-b c = omega (arith, within (chosen c.args.field) {b = c.loop-b.b} c.requires (omega arith))

pub plus_product-s-requires : goal.plus_product-s-requires
plus_product-s-requires c =
    let l = c.loop-b in
    let 𝓕 = chosen c.args.field in
    (summed_low 𝓕 l.invariant.1, c.requires.base.low.low _ (omega arith), c.requires.base.matrix.low.low _ (omega (arith, within 𝓕 {b = l.b} c.requires (omega arith))))

pub loop-b-preserved : goal.loop-b-preserved
loop-b-preserved c = let l = c.loop-b in (omega arith, summed_turn _ l.invariant.1 c.plus_product-s.ensures)

pub new-requires : goal.new-requires
new-requires c = summed_low (chosen c.args.field) c.loop-b.invariant.1

pub returns : goal.returns
returns c =
    summed_end (chosen c.args.field) c.requires (omega arith) c.loop-b.invariant.1 c.new.ensures
