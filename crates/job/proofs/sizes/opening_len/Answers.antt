use native.Mathlib.Omega.{arith}
use Rattle.job.specs.SizeLaws.{size_most}
use Rattle.job.specs.SizeLaws.{within, diagonals_most}
use Rattle.job.proofs.sizes.opening_len.Goals as goal

pub overflow_add-result-2 : goal.overflow_add-result-2
overflow_add-result-2 c =
    let 𝓦 = within c.args.p.depth c.args.p.rate c.args.p.k0 c.requires in
    omega (arith, c.diagonals_len.ensures, size_most 𝓦.size, 𝓦.depth, diagonals_most 𝓦 c.args.p.depth (omega arith))
