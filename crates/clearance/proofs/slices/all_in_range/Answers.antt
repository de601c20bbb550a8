use mathlib.Core.Path.{ap, ap₂, ◌∙◌}
use mathlib.Core.Bool.{Bool}
use native.Mathlib.Omega.{arith}
use lib.IntN.{ℤ, pos, ◌-ℤ◌}
use lib.ListN.{get_or}
use borrow.Author.Rules.{rules}
use Rattle.algebra.specs.Tests.{all, all_none, all_turn, all_end}
use Rattle.residue.specs.Chosen.{chosen, most}
use Rattle.clearance.specs.Clearances.{between}
use Rattle.clearance.proofs.Signs.{Read, read_any, Limits, limits}
use Rattle.clearance.proofs.slices.all_in_range.Goals as goal
use Rattle.clearance.proofs.slices.all_in_range.Goals.{After-max_clearance-max}

-- the test of a turn, and its numbers
abbrev test : After-max_clearance-max → ℤ → Bool
test c x = let max = c.max_clearance-max.result in between (Read (pos 0 -ℤ Read max)) (Read max) x

within : (c : After-max_clearance-max) → Limits (chosen c.args.field) c.max_clearance-max.result
within c = let f = c.args.field in limits (chosen f) (most f) _ c.max_clearance-max.ensures

pub overflow_sub-min : goal.overflow_sub-min
overflow_sub-min c = (within c).fits

pub loop-x-init : goal.loop-x-init
loop-x-init c = all_none (test c) c.args.s.now

pub loop-x-preserved : goal.loop-x-preserved
loop-x-preserved c =
    let l = c.loop-x in
    let m = c.before.before.before.before in
    let s = c.args.s.now in
    let read = ap (test m) (read_any (get_or s l.x-index (pos 0)) c.in_range-arg-1.given) in
    all_turn (test m) l.x-index s (pos 0) (search rules) l.invariant (c.in_range-ok.ensures ∙ read)

pub returns : goal.returns
returns c =
    let l = c.loop-x in
    let m = c.before.before in
    let s = c.args.s.now in
    let w = within m in
    all_end (test m) l.x-index s (omega arith) l.invariant ∙ ap₂ (λ low high. all (between low high) s) w.low w.high
