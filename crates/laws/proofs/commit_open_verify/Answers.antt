use Rattle.laws.specs.Honest.{committed, not_committed}
use Rattle.laws.proofs.commit_open_verify.Goals as goal

pub returns-in-Ok : goal.returns-in-Ok
returns-in-Ok c = committed _ c.encode.ensures c.in-Ok.is c.open_verify.ensures

pub returns-in-Err : goal.returns-in-Err
returns-in-Err c = not_committed _ c.encode.ensures c.in-Err.is c.refused.ensures
