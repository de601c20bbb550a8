use Rattle.residue.specs.Chosen.{chosen}
use Rattle.coefficients.proofs.Finding.{table_asks, table_found}
use Rattle.coefficients.proofs.find.Goals as goal

pub transform-requires : goal.transform-requires
transform-requires c =
    table_asks (chosen c.args.field) c.args.clearances.now c.to_words.ensures c.depth_of-depth.ensures c.requires.power c.requires.range

pub returns : goal.returns
returns c =
    table_found (chosen c.args.field) c.args.clearances.now c.to_words.ensures c.depth_of-depth.ensures c.transform.ensures
