use mathlib.Core.Path.{sym, ap, ◌∙◌}
use Prim.Native.Nat.{◌-◌}
use native.Mathlib.Omega.{arith}
use lib.ListN.{length}
use borrow.Author.Tests.{le-leb}
use Rattle.job.specs.Sizes.{base_size}
use Rattle.job.specs.SizeLaws.{within, block_most}
use Rattle.words.specs.Scans.{all_under}
use Rattle.queries.specs.Queries.{max_queries}
use Rattle.queries.proofs.Asked.{queries_some}
use Rattle.queries.proofs.queries_ok.Goals as goal

pub overflow_cast-places : goal.overflow_cast-places
overflow_cast-places c =
    let p = c.args.p in
    let most = block_most (within p.depth p.rate p.k0 c.requires) (p.depth - 1) (omega arith) in
    record { fits = omega (arith, c.block_len-places.ensures, most) }

pub returns-then-queries-le-MAX_QUERIES : goal.returns-then-queries-le-MAX_QUERIES
returns-then-queries-le-MAX_QUERIES c =
    let p = c.args.p in
    let us = c.args.queries.now in
    sym (queries_some p.depth (base_size p.rate p.k0) us c.if-p-eq0.false
    ∙ rw (le-leb 1 (length us) (omega arith), le-leb (length us) max_queries (omega arith))
    (sym (c.all_under.ensures ∙ ap (λ n. all_under n us) c.block_len-places.ensures)))
