use native.Mathlib.Omega.{arith}
use Rattle.residue.specs.Chosen.{chosen}
use Rattle.cofactor.proofs.Minors.{rows_within, four_value}
use Rattle.cofactor.proofs.minor_of_four.Goals as goal

pub row_of-x-requires : goal.row_of-x-requires
row_of-x-requires c =
    let 𝓛 = c.requires.lent in
    (rows_within 4 c.args.n c.args.i _ c.args.g.now 𝓛.long 𝓛.few c.skip.ensures (omega arith), 𝓛.low)

pub row_of-y-requires : goal.row_of-y-requires
row_of-y-requires c =
    let 𝓛 = c.requires.lent in
    (rows_within 4 c.args.n c.args.i _ c.args.g.now 𝓛.long 𝓛.few c.skip-2.ensures (omega arith), 𝓛.low)

pub row_of-z-requires : goal.row_of-z-requires
row_of-z-requires c =
    let 𝓛 = c.requires.lent in
    (rows_within 4 c.args.n c.args.i _ c.args.g.now 𝓛.long 𝓛.few c.skip-3.ensures (omega arith), 𝓛.low)

pub returns : goal.returns
returns c =
    let a = c.args in
    four_value (chosen a.field) a.n a.g.now a.i a.j c.requires c.skip.ensures c.skip-2.ensures c.skip-3.ensures c.row_of-x.ensures
    c.row_of-y.ensures c.row_of-z.ensures c.det3.ensures
