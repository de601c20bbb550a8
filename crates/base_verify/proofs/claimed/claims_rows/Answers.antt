use mathlib.Core.Path.{sym, ap, ◌∙◌}
use Rattle.algebra.specs.WordLists.{elements}
use Rattle.residue.specs.Chosen.{chosen}
use Rattle.claims.specs.Steps.{after_sums}
use Rattle.std.proofs.lemmas.Result.{err_from_is_err_and}
use Rattle.base_verify.proofs.LastClaim.{result_is, last_input}
use Rattle.base_verify.proofs.claimed.claims_rows.Goals as goal

pub returns-in_err-claim : goal.returns-in_err-claim
returns-in_err-claim c =
    let a = c.args in
    let 𝓕 = chosen a.code.now.field in
    let p = err_from_is_err_and c.from_residual.result c.from_residual.ensures.1 in
    rw (p.1, p.2)
    (ap (after_sums 𝓕 a.code.now.low (elements 𝓕 a.opening.now) (elements 𝓕 a.z.now) (elements 𝓕 a.r.now)) (sym c.in_err-claim.was)
    ∙ result_is 𝓕 c.requires _ c.sums.ensures)

pub last_rows-requires : goal.last_rows-requires
last_rows-requires c = last_input (chosen c.args.code.now.field) c.requires _ _ c.in_ok-claim.was c.sums.ensures.low

pub returns : goal.returns
returns c =
    let a = c.args in
    let 𝓕 = chosen a.code.now.field in
    c.last_rows.ensures
    ∙ ap (after_sums 𝓕 a.code.now.low (elements 𝓕 a.opening.now) (elements 𝓕 a.z.now) (elements 𝓕 a.r.now)) (sym c.in_ok-claim.was)
    ∙ result_is 𝓕 c.requires _ c.sums.ensures
