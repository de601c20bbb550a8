use Rattle.basefold.specs.Checks.{checks}
use Rattle.residue.specs.Chosen.{chosen}
use Rattle.std.proofs.lemmas.Result.{err_from_is_err_and}
use Rattle.verdict.specs.FirstFailure.{append_fails, append_holds}
use Rattle.base_verify.proofs.LastClaim.{claims_input}
use Rattle.base_verify.proofs.checks_rows.Goals as goal

pub claims_rows-requires : goal.claims_rows-requires
claims_rows-requires c = claims_input (chosen c.args.code.now.field) c.requires

pub returns-in_err-claims_rows : goal.returns-in_err-claims_rows
unfolding checks
returns-in_err-claims_rows c =
    let p = err_from_is_err_and c.from_residual.result c.from_residual.ensures.1 in
    rw (p.1, p.2) (append_fails _ _ c.in_err-claims_rows.ensures)

pub returns : goal.returns
unfolding checks
returns c = append_holds _ _ c.in_ok-claims_rows.ensures c.blocks_rows.ensures
