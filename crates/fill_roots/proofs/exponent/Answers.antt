use Rattle.fill_roots.proofs.Judging.{some_found, none_found}
use Rattle.std.proofs.Common.{arith}
use Rattle.fill_roots.proofs.exponent.Goals as goal

pub returns-in-2 : goal.returns-in-2
returns-in-2 c = some_found 1 c.in-2.is

pub returns-in-4 : goal.returns-in-4
returns-in-4 c = some_found 2 c.in-4.is

pub returns-in-8 : goal.returns-in-8
returns-in-8 c = some_found 3 c.in-8.is

pub returns-in-16 : goal.returns-in-16
returns-in-16 c = some_found 4 c.in-16.is

pub returns-in_default : goal.returns-in_default
returns-in_default c =
    none_found c.args.rate c.requires (λ e. omega arith) (λ e. omega arith) (λ e. omega arith) (λ e. omega arith)
