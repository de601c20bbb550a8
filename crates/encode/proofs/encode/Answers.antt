use mathlib.Core.Path.{sym, ap, ◌∙◌}
use native.Mathlib.Omega.{arith}
use Rattle.job.specs.SizeLaws.{low_most}
use Rattle.residue.specs.Chosen.{chosen}
use Rattle.job.specs.Outcome.{outcome}
use Rattle.encode.specs.EncodingLaws.{encodes, encode_within}
use Rattle.encode.proofs.encode.Goals as goal

pub overflow_cast-low : goal.overflow_cast-low
overflow_cast-low c = record { fits = omega (arith, c.low_len-low.ensures, low_most c.args.p.k0) }

pub base_len-n-requires : goal.base_len-n-requires
base_len-n-requires c =
    let a = c.args in
    encode_within (chosen a.field) a.p.depth a.p.rate a.p.k0 a.g.now a.t.now a.t2.now a.message.now _
    (sym c.judge.ensures ∙ ap outcome c.in_ok-judge.was)

pub encode_rows-requires : goal.encode_rows-requires
encode_rows-requires c =
    let a = c.args in
    rw c.base_len-n.ensures
    (encodes (chosen a.field) a.p.depth a.p.rate a.p.k0 a.g.now a.t.now a.t2.now a.message.now a.out.now
    (sym c.judge.ensures ∙ ap outcome c.in_ok-judge.was))
