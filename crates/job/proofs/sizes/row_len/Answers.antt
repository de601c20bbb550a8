use mathlib.Core.Path.{ap}
use Prim.Native.Nat.{◌*◌}
use native.Mathlib.Omega.{arith}
use Rattle.job.specs.SizeLaws.{within, matrix_most}
use Rattle.job.proofs.sizes.row_len.Goals as goal

pub overflow_mul-result : goal.overflow_mul-result
overflow_mul-result c =
    rw c.base_len.ensures (omega (arith, matrix_most (within c.args.p.depth c.args.p.rate c.args.p.k0 c.requires)))

pub returns : goal.returns
returns c = ap (λ n. c.args.p.k0 * n) c.base_len.ensures
