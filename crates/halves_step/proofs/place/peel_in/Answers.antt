use mathlib.Core.Path.{ap}
use lib.Dec.{eqb}
use Rattle.residue.specs.Chosen.{chosen}
use Rattle.residue.specs.ResidueLaws.{is_low}
use Rattle.halves_step.proofs.place.peel_in.Goals as goal

pub minus_product-left-requires : goal.minus_product-left-requires
minus_product-left-requires c = let p = c.requires in (p.word, p.first, p.right)

pub plus_product-second-requires : goal.plus_product-second-requires
plus_product-second-requires c = let p = c.requires in (is_low (chosen c.args.field) _ c.minus_product-left.ensures, p.second, p.right)

pub returns : goal.returns
returns c = (c.minus_product-left.ensures, ap (λ w. eqb w c.args.v) c.plus_product-second.ensures)
