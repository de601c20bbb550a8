use mathlib.Core.Path.{◌≡◌, sym, ap, ap₂, ◌∙◌}
use mathlib.Core.Bool.{false, not, ◌&&◌}
use native.Mathlib.Omega.{arith}
use borrow.Author.Rules.{rules}
use lib.ListN.{get_or, take, length-take}
use Rattle.queries.specs.Distinct.{absent}
use Rattle.queries.proofs.Marked.{marked_none, marked_turn, marked_stop, marked_end}
use Rattle.queries.proofs.distinct.all_differ.Goals as goal

pub loop-i-init : goal.loop-i-init
loop-i-init c = marked_none (search rules)

pub slice_bounds-absent-end : goal.slice_bounds-absent-end
slice_bounds-absent-end c = simp length-take (omega (arith, c.loop-i.invariant.within))

pub returns-then-not-absent : goal.returns-then-not-absent
returns-then-not-absent c =
    let ws = c.args.s.now in
    let i = c.loop-i.i in
    let again : absent (get_or ws i 0) (take i ws) ≡ false = sym c.absent.ensures ∙ c.if-not-absent.true in
    marked_stop c.loop-i.invariant (search rules) (ap₂ ◌&&◌ c.if-marks-m.true (ap not again))

pub loop-i-preserved : goal.loop-i-preserved
loop-i-preserved c = marked_turn c.loop-i.invariant (search rules) (grind arith)

pub returns : goal.returns
returns c = marked_end c.loop-i.invariant (omega arith)
