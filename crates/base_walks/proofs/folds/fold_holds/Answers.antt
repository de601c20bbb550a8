use mathlib.Core.Path.{◌∙◌}
use native.Mathlib.Omega.{arith}
use Rattle.residue.specs.Chosen.{chosen}
use Rattle.base_walks.proofs.ReadRows.{read_within, first_low, second_low, challenge_low, read_folding, read_fold}
use Rattle.base_walks.proofs.folds.fold_holds.Goals as goal

pub overflow_add-at : goal.overflow_add-at
overflow_add-at c =
    let a = c.args in
    omega (arith, read_within (chosen a.code.now.field) c.requires.0 a.level a.u c.requires.1 c.requires.2 c.diagonals_len.ensures a.code.now.t.now c.requires.0.coding.first)

pub new-a-requires : goal.new-a-requires
new-a-requires c =
    let a = c.args in
    challenge_low (chosen a.code.now.field) c.requires.0 a.level a.u c.requires.1 c.requires.2

pub offset_bounds-t-at : goal.offset_bounds-t-at
offset_bounds-t-at c =
    let a = c.args in
    omega (arith, read_within (chosen a.code.now.field) c.requires.0 a.level a.u c.requires.1 c.requires.2 c.diagonals_len.ensures a.code.now.t.now c.requires.0.coding.first)

pub bounds-t-at : goal.bounds-t-at
bounds-t-at c =
    let a = c.args in
    read_within (chosen a.code.now.field) c.requires.0 a.level a.u c.requires.1 c.requires.2 c.diagonals_len.ensures a.code.now.t.now c.requires.0.coding.first

pub new-first-requires : goal.new-first-requires
new-first-requires c =
    let a = c.args in
    first_low (chosen a.code.now.field) c.requires.0 a.level a.u c.requires.1 c.requires.2 c.diagonals_len.ensures

pub offset_bounds-t2-at : goal.offset_bounds-t2-at
offset_bounds-t2-at c =
    let a = c.args in
    omega (arith, read_within (chosen a.code.now.field) c.requires.0 a.level a.u c.requires.1 c.requires.2 c.diagonals_len.ensures a.code.now.t2.now c.requires.0.coding.second)

pub bounds-t2-at : goal.bounds-t2-at
bounds-t2-at c =
    let a = c.args in
    read_within (chosen a.code.now.field) c.requires.0 a.level a.u c.requires.1 c.requires.2 c.diagonals_len.ensures a.code.now.t2.now c.requires.0.coding.second

pub new-second-requires : goal.new-second-requires
new-second-requires c =
    let a = c.args in
    second_low (chosen a.code.now.field) c.requires.0 a.level a.u c.requires.1 c.requires.2 c.diagonals_len.ensures

pub fold_at-requires : goal.fold_at-requires
fold_at-requires c =
    let a = c.args in
    read_folding (chosen a.code.now.field) c.requires.0 a.level a.u c.requires.1 c.requires.2 c.diagonals_len.ensures c.level_block-upper.ensures c.level_block-lower.ensures _ _ _ c.new-a.ensures c.new-first.ensures c.new-second.ensures

pub returns : goal.returns
returns c =
    let a = c.args in
    c.fold_at.ensures
    ∙ read_fold (chosen a.code.now.field) c.requires.0 a.level a.u c.requires.1 c.requires.2 c.diagonals_len.ensures c.level_block-upper.ensures c.level_block-lower.ensures _ _ _ c.new-a.ensures c.new-first.ensures c.new-second.ensures
