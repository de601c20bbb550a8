use mathlib.Core.Path.{ap}
use Prim.Native.Nat.{◌*◌}
use native.Mathlib.Omega.{arith}
use Rattle.job.specs.SizeLaws.{within_size}
use Rattle.job.proofs.sizes.message_len.Goals as goal

pub message_len-requires : goal.message_len-requires
message_len-requires c = (within_size c.args.p.depth c.args.p.k0 c.requires).depth

pub overflow_mul-result : goal.overflow_mul-result
overflow_mul-result c =
    rw c.message_len.ensures (omega (arith, (within_size c.args.p.depth c.args.p.k0 c.requires).message))

pub returns : goal.returns
returns c = ap (λ n. c.args.p.k0 * n) c.message_len.ensures
