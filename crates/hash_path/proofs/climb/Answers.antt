use mathlib.Core.Path.{◌≡◌, sym, ◌∙◌}
use native.Mathlib.Omega.{arith}
use Rattle.std.proofs.lemmas.Grind.{common_steps}
use Rattle.hash_path.proofs.Climbs.{climbed_turn, climbed_none}
use Rattle.hash_path.proofs.climb.Goals as goal

pub loop-sibling-preserved : goal.loop-sibling-preserved
loop-sibling-preserved c =
    let l = c.loop-sibling in
    let t = c.in-Some.ensures.steps in
    (t.0 ∙ l.invariant.0, climbed_turn l.j l.d.bytes c.in-Some.sibling.now c.next.new.self.rest.now t.1.0 (t.1.1 ∙ l.invariant.0) c.parent-d.ensures l.invariant.1)

pub returns : goal.returns
returns c =
    let l = c.loop-sibling in
    let t = c.in-None.ensures.steps in
    sym (climbed_none l.j l.d.bytes l.sibling-iterator.rest.now (omega (arith, t.1.0, l.invariant.0))) ∙ l.invariant.1

pub loop-sibling-init : goal.loop-sibling-init
loop-sibling-init c =
    let whole : c.chunks_exact-sibling-items.result.rest.now ≡ c.args.path.now = c.chunks_exact-sibling-items.ensures.rest in
    grind (arith, common_steps)
