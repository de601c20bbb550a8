-- The number of each verdict, and the places that it names. Definitions only. Assumes nothing.
use Rattle.std.specs.Prelude.{Result, Ok, Err}
use Rattle.std.proofs.Math.Option.{Option, none, some}
use Rattle.basefold.specs.Checks.{Check, sum_check, final_check, base_check, fold_check}
use Rattle.job.specs.Outcome.{Numbers, Outcome, refused, done, due}
use Rattle.verdict.specs.declared.Failure.{Failure}
use Rattle.verdict.specs.declared.Failure.TheVariants.{Sum, Final, Base, Fold}
use Rattle.verdict.specs.declared.Outcome.{Outcome as Said}
use Rattle.verdict.specs.declared.Outcome.TheVariants.{Accepted, Rejected, Refused}
use Rattle.verdict.specs.declared.Verdict.{Verdict}

-- sum i; final; base j; fold, with the query's position and the level
abbrev pub check_numbers : Check → Numbers
check_numbers (sum_check i) = (20, i, 0)
check_numbers final_check = (21, 0, 0)
check_numbers (base_check j) = (22, j, 0)
check_numbers (fold_check q i) = (23, q, i)

-- a refusal; no check fails; the first one that fails
abbrev pub numbers_of : Outcome (Option Check) → Numbers
numbers_of (refused n) = n
numbers_of (done none) = (0, 0, 0)
numbers_of (done (some c)) = check_numbers c

-- what the code's answers say
abbrev pub check : Failure → Check
check (Sum i) = sum_check i
check Final = final_check
check (Base j) = base_check j
check (Fold q i) = fold_check q i

abbrev pub found : Result (Unit {0}) Failure → Option Check
found (Ok tt) = none
found (Err f) = some (check f)

abbrev pub said : Said → Outcome (Option Check)
said Accepted = done none
said (Rejected f) = done (some (check f))
said (Refused r) = refused (due r)

-- the number and places of a verdict
abbrev pub numbers : Verdict → Numbers
numbers v = numbers_of (said v.outcome)
