use mathlib.Core.Path.{◌∙◌}
use Prim.Native.Nat.{◌+◌}
use native.Mathlib.Omega.{arith}
use lib.ListN.{length}
use Rattle.residue.specs.Chosen.{chosen}
use Rattle.walks.proofs.Folded.{line_points, line_is}
use Rattle.walks.proofs.folds.fold_at.Goals as goal

pub new-w0-requires : goal.new-w0-requires
new-w0-requires c = c.requires.upper.low c.args.u (omega (arith, c.requires.size, c.requires.place))

pub new-w1-requires : goal.new-w1-requires
new-w1-requires c = c.requires.upper.low (length c.args.lower.now + c.args.u) (omega (arith, c.requires.size, c.requires.place))

pub new-b-requires : goal.new-b-requires
new-b-requires c = c.requires.lower.low c.args.u c.requires.place

pub on_line-requires : goal.on_line-requires
on_line-requires c =
    let a = c.args in
    rw c.in-First.is at (line_points (chosen a.field) a.a a.t a.t2 a.u a.upper.now a.lower.now c.requires _ _ _ c.new-w0.ensures c.new-w1.ensures c.new-b.ensures)

pub on_line-requires-in-Second : goal.on_line-requires-in-Second
on_line-requires-in-Second c =
    let a = c.args in
    rw c.in-Second.is at (line_points (chosen a.field) a.a a.t a.t2 a.u a.upper.now a.lower.now c.requires _ _ _ c.new-w0.ensures c.new-w1.ensures c.new-b.ensures)

pub returns-in-First : goal.returns-in-First
returns-in-First c =
    let a = c.args in
    rw c.in-First.is c.on_line.ensures
    ∙ line_is (chosen a.field) a.a a.t a.t2 a.u a.upper.now a.lower.now c.requires _ _ _ c.new-w0.ensures c.new-w1.ensures c.new-b.ensures

pub returns-in-Second : goal.returns-in-Second
returns-in-Second c =
    let a = c.args in
    rw c.in-Second.is c.on_line-in-Second.ensures
    ∙ line_is (chosen a.field) a.a a.t a.t2 a.u a.upper.now a.lower.now c.requires _ _ _ c.new-w0.ensures c.new-w1.ensures c.new-b.ensures
