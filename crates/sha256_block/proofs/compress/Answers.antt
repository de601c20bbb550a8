use mathlib.Core.Path.{◌∙◌, ap}
use lib.ListN.{get_or}
use Rattle.algebra.specs.Lists.{get_or_row}
use Rattle.sha256_block.specs.Compression.{W, added, compressed}
use Rattle.sha256_block.specs.CompressionLaws.{rounds_ext}
use Rattle.sha256_block.proofs.compress.Goals as goal

pub returns : goal.returns
unfolding compressed
returns c =
    let a = c.args in
    let w = W a.b.now in
    c.added.ensures
    ∙ ap (λ r. added r a.s) (c.rounds.ensures ∙ rounds_ext _ w a.s 64 (λ j h. ap (λ l. get_or l j 0) c.schedule-w.ensures ∙ get_or_row 64 w j 0 h))
