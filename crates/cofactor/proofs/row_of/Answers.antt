use native.Mathlib.Omega.{arith}
use Rattle.residue.specs.Chosen.{chosen}
use Rattle.cofactor.proofs.Minors.{place_within, row_read}
use Rattle.cofactor.proofs.row_of.Goals as goal

pub overflow_add-a : goal.overflow_add-a
overflow_add-a c =
    let a = c.args in
    omega (arith, place_within a.g.now _ a.j c.requires.0 (omega arith) c.skip.ensures)

pub offset_bounds-g-at : goal.offset_bounds-g-at
offset_bounds-g-at c =
    let a = c.args in
    omega (arith, place_within a.g.now _ a.j c.requires.0 (omega arith) c.skip.ensures)

pub bounds-g-at : goal.bounds-g-at
bounds-g-at c =
    let a = c.args in
    place_within a.g.now _ a.j c.requires.0 (omega arith) c.skip.ensures

pub overflow_add-b : goal.overflow_add-b
overflow_add-b c =
    let a = c.args in
    omega (arith, place_within a.g.now _ a.j c.requires.0 (omega arith) c.skip-2.ensures)

pub offset_bounds-g-at-2 : goal.offset_bounds-g-at-2
offset_bounds-g-at-2 c =
    let a = c.args in
    omega (arith, place_within a.g.now _ a.j c.requires.0 (omega arith) c.skip-2.ensures)

pub bounds-g-at-2 : goal.bounds-g-at-2
bounds-g-at-2 c =
    let a = c.args in
    place_within a.g.now _ a.j c.requires.0 (omega arith) c.skip-2.ensures

pub overflow_add-c : goal.overflow_add-c
overflow_add-c c =
    let a = c.args in
    omega (arith, place_within a.g.now _ a.j c.requires.0 (omega arith) c.skip-3.ensures)

pub offset_bounds-g-at-3 : goal.offset_bounds-g-at-3
offset_bounds-g-at-3 c =
    let a = c.args in
    omega (arith, place_within a.g.now _ a.j c.requires.0 (omega arith) c.skip-3.ensures)

pub bounds-g-at-3 : goal.bounds-g-at-3
bounds-g-at-3 c =
    let a = c.args in
    place_within a.g.now _ a.j c.requires.0 (omega arith) c.skip-3.ensures

pub new-requires : goal.new-requires
new-requires c =
    let a = c.args in
    c.requires.1.low _ (place_within a.g.now _ a.j c.requires.0 (omega arith) c.skip.ensures)

pub new-requires-2 : goal.new-requires-2
new-requires-2 c =
    let a = c.args in
    c.requires.1.low _ (place_within a.g.now _ a.j c.requires.0 (omega arith) c.skip-2.ensures)

pub new-requires-3 : goal.new-requires-3
new-requires-3 c =
    let a = c.args in
    c.requires.1.low _ (place_within a.g.now _ a.j c.requires.0 (omega arith) c.skip-3.ensures)

pub returns : goal.returns
returns c =
    let a = c.args in
    row_read (chosen a.field) a.n a.g.now a.i a.j c.requires.0 c.requires.1 c.skip.ensures c.skip-2.ensures c.skip-3.ensures c.new.ensures
    c.new-2.ensures c.new-3.ensures
