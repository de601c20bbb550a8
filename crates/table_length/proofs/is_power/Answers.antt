use mathlib.Core.Path.{◌∙◌}
use Prim.Native.Nat.{◌^◌, ◌<◌}
use native.Mathlib.Omega.{arith}
use borrow.Author.Tests.{lt-leb}
use Rattle.job.specs.Limits.{max_depth}
use Rattle.table_length.proofs.Bits.{one_bit, too_large}
use Rattle.table_length.proofs.is_power.Goals as goal

pub returns-then-n-message_len : goal.returns-then-n-message_len
returns-then-n-message_len c = one_bit max_depth _ (omega arith)

pub returns-else-n-message_len : goal.returns-else-n-message_len
returns-else-n-message_len c =
    let above : 2 ^ max_depth < c.args.n = omega arith in
    lt-leb _ _ c.if-n-message_len.false ∙ too_large max_depth _ above
