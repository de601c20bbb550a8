use mathlib.Core.Path.{ap₂}
use Prim.Native.Nat.{◌*◌}
use native.Mathlib.Omega.{arith}
use Rattle.job.specs.SizeLaws.{within, block_most}
use Rattle.job.proofs.sizes.block_len.Goals as goal

pub message_len-requires : goal.message_len-requires
message_len-requires c =
    omega (arith, c.requires.1, (within c.args.p.depth c.args.p.rate c.args.p.k0 c.requires.0).depth)

pub overflow_mul-result : goal.overflow_mul-result
overflow_mul-result c =
    rw (c.base_len.ensures, c.message_len.ensures) (omega (arith, block_most (within c.args.p.depth c.args.p.rate c.args.p.k0 c.requires.0) c.args.level c.requires.1))

pub returns : goal.returns
returns c = ap₂ ◌*◌ c.base_len.ensures c.message_len.ensures
