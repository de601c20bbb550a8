use native.Mathlib.Omega.{arith}
use Rattle.job.specs.SizeLaws.{low_most}
use Rattle.job.proofs.sizes.point_len.Goals as goal

pub overflow_add-result : goal.overflow_add-result
overflow_add-result c = omega (arith, c.low_len.ensures, low_most c.args.p.k0)
