-- What the answer of the first pass says, where a number that is too large has a fault by its index; and that this determines it. Assumes nothing.
use Rattle.std.specs.Prelude.{◌≡◌, refl, cond, ℕ, eqb, Result, Ok, Err}
use Rattle.std.proofs.Common.{sym, ap, ◌∙◌}
use Rattle.job.specs.Outcome.{Numbers, Outcome, refused, done}
use Rattle.numeral.specs.declared.read.Fault.{Fault as Unread}
use Rattle.numeral.specs.declared.read.Fault.TheVariants.{Ends as NoByte, Malformed as BadForm}
use Rattle.cursor.specs.declared.Fault.{Fault}
use Rattle.cursor.specs.declared.Fault.TheVariants.{Ends, Malformed, High}

-- a fault of one number, handed on
abbrev pub handed_on : Unread → Fault
handed_on NoByte = Ends
handed_on BadForm = Malformed

-- the place after what was read, or the first fault
abbrev pub Skimmed : Type 0
Skimmed = Result ℕ Fault

abbrev pub told : (ℕ → Numbers) → Skimmed → Outcome ℕ
told fault (Ok n) = done n
told fault (Err Ends) = refused (30, 0, 0)
told fault (Err Malformed) = refused (31, 0, 0)
told fault (Err (High k)) = refused (fault k)

-- a fault that shows the index and is neither 30 nor 31
abbrev shows : ℕ → Numbers
shows k = (0, k, 0)

abbrev of_told : Outcome ℕ → Skimmed
of_told (done n) = Ok n
of_told (refused n) = Err (cond (eqb n.0 0) (High n.1) (cond (eqb n.0 30) Ends Malformed))

of_told_lem : (r : Skimmed) → of_told (told shows r) ≡ r
of_told_lem (Ok n) = refl
of_told_lem (Err Ends) = refl
of_told_lem (Err Malformed) = refl
of_told_lem (Err (High k)) = refl

pub same_skimmed : (r r' : Skimmed) → ((fault : ℕ → Numbers) → told fault r ≡ told fault r') → r ≡ r'
same_skimmed r r' e = sym (of_told_lem r) ∙ ap of_told (e shows) ∙ of_told_lem r'
