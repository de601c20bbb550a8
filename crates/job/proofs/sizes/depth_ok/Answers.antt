use mathlib.Core.Path.{ap, ◌∙◌}
use lib.Dec.{leb}
use Rattle.job.specs.Limits.{max_depth}
use Rattle.job.specs.SizeLaws.{depth_by_point}
use Rattle.job.proofs.sizes.depth_ok.Goals as goal

pub returns : goal.returns
returns c = let p = c.args.p in ap (λ n. leb n max_depth) c.point_len.ensures ∙ depth_by_point p.k0 p.depth
