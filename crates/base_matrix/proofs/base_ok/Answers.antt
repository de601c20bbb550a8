use mathlib.Core.Bool.{not}
use mathlib.Core.Path.{ap}
use borrow.Author.Tests.{not-false}
use Rattle.base_matrix.proofs.base_ok.Goals as goal

pub returns-then-k-eq1 : goal.returns-then-k-eq1
returns-then-k-eq1 c = record { one = λ h. c.none_zero.ensures; more = λ n. absurd (n c.if-k-eq1.true) }

pub returns : goal.returns
returns c =
    let r = c.invert-r.ensures.refused in
    record { one = λ h. absurd (c.if-k-eq1.false h); more = λ n. (λ e. r.0 (not-false _ e), λ s. ap not (r.1 s)) }
