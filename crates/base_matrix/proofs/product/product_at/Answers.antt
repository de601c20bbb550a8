use native.Mathlib.Omega.{arith}
use Rattle.residue.specs.Chosen.{chosen}
use Rattle.base_matrix.proofs.Products.{summed_none, summed_low, summed_turn, summed_end}
use Rattle.base_matrix.proofs.product.product_at.Goals as goal

pub loop-i-init : goal.loop-i-init
loop-i-init c = (omega arith, summed_none _ _ _ _)

pub plus_product-s-requires : goal.plus_product-s-requires
plus_product-s-requires c =
    let l = c.loop-i in
    (summed_low (chosen c.args.field) l.invariant.1, c.requires.low.low _ (omega arith), c.requires.low_matrix.low _ (omega arith))

pub loop-i-preserved : goal.loop-i-preserved
loop-i-preserved c = let l = c.loop-i in (omega arith, summed_turn _ l.invariant.1 c.plus_product-s.ensures)

pub returns : goal.returns
returns c = let l = c.loop-i in summed_end (chosen c.args.field) (omega arith) l.invariant.1
