use mathlib.Core.Path.{ap₂, ◌∙◌}
use Rattle.residue.specs.Chosen.{chosen}
use Rattle.row_sums.specs.Sums.{two_scaled}
use Rattle.row_sums.proofs.Lowering.{lowered_raised, raise_two}
use Rattle.row_sums.proofs.two_rows.Goals as goal

pub two_raised-requires : goal.two_raised-requires
two_raised-requires c = raise_two c.args.field c.args.a.0 c.args.b.0 _ _ c.raised-e.ensures c.raised-f.ensures c.requires

pub returns : goal.returns
returns c =
    let a = c.args in
    c.two_raised.ensures
    ∙ ap₂ (λ x y. two_scaled (chosen a.field) x y a.g.now a.h.now)
    (lowered_raised a.field a.a.0 _ c.requires.factor c.raised-e.ensures)
    (lowered_raised a.field a.b.0 _ c.requires.factor' c.raised-f.ensures)
