use Rattle.laws.specs.Honest.{opened, not_opened}
use Rattle.laws.proofs.open_verify.Goals as goal

pub returns-in-Ok : goal.returns-in-Ok
returns-in-Ok c = opened _ c.write_opening.ensures c.in-Ok.is c.verify_opening.ensures

pub returns-in-Err : goal.returns-in-Err
returns-in-Err c = not_opened _ c.write_opening.ensures c.in-Err.is c.refused.ensures
