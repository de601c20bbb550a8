use native.Mathlib.Omega.{arith}
use lib.Dec.{lit<}
use mathlib.Core.Path.{refl, ◌∙◌}
use Rattle.residue.specs.Chosen.{chosen}
use Rattle.claims.proofs.SumChecks.{sent_low, sum_test}
use Rattle.claims.proofs.sums.sum_holds.Goals as goal

pub new-a-requires : goal.new-a-requires
new-a-requires c = sent_low (chosen c.args.field) c.args.depth c.args.i c.args.opening.now c.requires.1 _ c.round_at-at.ensures 0 _ (lit< tt) (omega arith)

pub new-b-requires : goal.new-b-requires
new-b-requires c = sent_low (chosen c.args.field) c.args.depth c.args.i c.args.opening.now c.requires.1 _ c.round_at-at.ensures 1 _ (lit< tt) refl

pub plus-requires : goal.plus-requires
plus-requires c =
    let low = sent_low (chosen c.args.field) c.args.depth c.args.i c.args.opening.now c.requires.1 _ c.round_at-at.ensures in
    (rw c.new-a.ensures (low 0 _ (lit< tt) (omega arith)), rw c.new-b.ensures (low 1 _ (lit< tt) refl))

pub returns : goal.returns
returns c =
    let a = c.args in
    c.same.ensures ∙ sum_test (chosen a.field) a.depth a.i a.opening.now c.requires.1 _ c.round_at-at.ensures _ _ a.claim c.new-a.ensures c.new-b.ensures c.requires.0 c.plus.ensures
