use native.Mathlib.Omega.{arith}
use Rattle.residue.specs.Chosen.{chosen}
use Rattle.cofactor.proofs.Minors.{skip_most, rows_within, two_left}
use Rattle.cofactor.proofs.minor_of_two.Goals as goal

pub overflow_mul-at : goal.overflow_mul-at
overflow_mul-at c =
    let h = rows_within 2 c.args.n c.args.i 0 c.args.g.now c.requires.lent.long c.requires.lent.few c.skip.ensures (omega arith) in
    omega arith

pub overflow_add-at : goal.overflow_add-at
overflow_add-at c =
    let h = rows_within 2 c.args.n c.args.i 0 c.args.g.now c.requires.lent.long c.requires.lent.few c.skip.ensures (omega arith) in
    omega (arith, skip_most c.args.j 0)

pub offset_bounds-g-at : goal.offset_bounds-g-at
offset_bounds-g-at c =
    let h = rows_within 2 c.args.n c.args.i 0 c.args.g.now c.requires.lent.long c.requires.lent.few c.skip.ensures (omega arith) in
    omega (arith, skip_most c.args.j 0)

pub bounds-g-at : goal.bounds-g-at
bounds-g-at c =
    let h = rows_within 2 c.args.n c.args.i 0 c.args.g.now c.requires.lent.long c.requires.lent.few c.skip.ensures (omega arith) in
    omega (arith, skip_most c.args.j 0)

pub new-requires : goal.new-requires
new-requires c =
    let h = rows_within 2 c.args.n c.args.i 0 c.args.g.now c.requires.lent.long c.requires.lent.few c.skip.ensures (omega arith) in
    c.requires.lent.low.low _ (omega (arith, skip_most c.args.j 0))

pub returns : goal.returns
returns c =
    let a = c.args in
    two_left (chosen a.field) a.n a.g.now a.i a.j c.requires c.skip.ensures c.skip-2.ensures c.new.ensures
