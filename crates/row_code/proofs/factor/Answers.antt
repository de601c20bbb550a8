use Rattle.residue.specs.Chosen.{chosen}
use Rattle.residue.specs.ResidueLaws.{is_low}
use Rattle.row_code.proofs.Rows.{factor_is}
use Rattle.row_code.proofs.factor.Goals as goal

pub times-requires : goal.times-requires
times-requires c = let 𝓕 = chosen c.args.field in (is_low 𝓕 _ c.scale_power.ensures, is_low 𝓕 _ c.scale_power-once.ensures)

pub returns : goal.returns
returns c =
    let a = c.args in
    factor_is a.field a.depth c.scale_power.ensures c.scale_power-once.ensures c.times.ensures
