use mathlib.Core.Path.{sym, ap, ◌∙◌}
use lib.ListN.{length}
use Rattle.residue.specs.Chosen.{chosen}
use Rattle.base_matrix.specs.Inverting.{solved}
use Rattle.base_matrix.proofs.Products.{times_lent}
use Rattle.base_matrix.proofs.solve.Goals as goal

pub slice_bounds-times_into-end : goal.slice_bounds-times_into-end
slice_bounds-times_into-end c = sym (ap length c.four_words-old.ensures.1)

pub times_into-requires : goal.times_into-requires
times_into-requires c =
    times_lent (chosen c.args.field) c.args.m.now c.args.b.now c.requires c.four_words-old.ensures.1

pub returns : goal.returns
returns c =
    let a = c.args in
    c.times_into.ensures ∙ ap (solved (chosen a.field) a.m.now) c.four_words-old.ensures.1
