use mathlib.Core.Path.{sym, ap, ◌∙◌}
use Prim.Native.Nat.{◌+◌}
use lib.ListN.{length}
use native.Mathlib.Omega.{arith}
use Rattle.numeral.proofs.Writes.{bytes_none, length_last, length_more}
use Rattle.numeral.proofs.write.+size_in.Goals as goal

pub returns-then-left-eq0 : goal.returns-then-left-eq0
returns-then-left-eq0 t c = let a = c.args in (sym (ap length (bytes_none a.left a.n c.if-left-eq0.true)), omega arith)

pub returns-then-n-lt128 : goal.returns-then-n-lt128
returns-then-n-lt128 t c = let a = c.args in (sym (length_last a.left a.n c.if-left-eq0.false (omega arith)), omega arith)

pub size_in-requires : goal.size_in-requires
size_in-requires t c = (omega arith, tt)

pub overflow_add-result : goal.overflow_add-result
overflow_add-result t c = let e = c.size_in.ensures.1 in omega arith

pub returns : goal.returns
returns t c = let a = c.args in let e = c.size_in.ensures in (ap (λ x. 1 + x) e.0 ∙ sym (length_more a.left a.n c.if-left-eq0.false (omega arith)), omega (arith, e.1))
