use Rattle.residue.specs.ResidueLaws.{is_low}
use Rattle.residue.specs.Chosen.{chosen}
use Rattle.cofactor.proofs.Minors.{two_value}
use Rattle.cofactor.proofs.three.det2.Goals as goal

pub minus-requires : goal.minus-requires
minus-requires c =
    let 𝓕 = chosen c.args.field in
    (is_low 𝓕 _ c.times-p.ensures, is_low 𝓕 _ c.times-q.ensures)

pub returns : goal.returns
returns c = two_value (chosen c.args.field) c.times-p.ensures c.times-q.ensures c.minus.ensures
