use Prim.Native.Nat.{◌-◌}
use native.Mathlib.Omega.{arith}
use lib.Dec.{lit<}
use mathlib.Core.Path.{refl}
use Rattle.residue.specs.Chosen.{chosen}
use Rattle.claims.proofs.SumChecks.{sent_low, through_sent}
use Rattle.claims.proofs.sums.next_claim.Goals as goal

pub new-a-requires : goal.new-a-requires
new-a-requires c = sent_low (chosen c.args.field) c.args.depth c.args.i c.args.opening.now c.requires.0 _ c.round_at-at.ensures 0 _ (lit< tt) (omega arith)

pub new-b-requires : goal.new-b-requires
new-b-requires c = sent_low (chosen c.args.field) c.args.depth c.args.i c.args.opening.now c.requires.0 _ c.round_at-at.ensures 1 _ (lit< tt) refl

pub new-c-requires : goal.new-c-requires
new-c-requires c = sent_low (chosen c.args.field) c.args.depth c.args.i c.args.opening.now c.requires.0 _ c.round_at-at.ensures 2 _ (lit< tt) refl

pub new-requires : goal.new-requires
new-requires c = c.requires.1.low.low (c.args.i - 1) (omega (arith, c.requires.0.positive, c.requires.1.long))

pub through-requires : goal.through-requires
through-requires c =
    let a = c.args in
    let low = sent_low (chosen a.field) a.depth a.i a.opening.now c.requires.0 _ c.round_at-at.ensures in (
      rw c.new-a.ensures (low 0 _ (lit< tt) (omega arith)),
      rw c.new-b.ensures (low 1 _ (lit< tt) refl),
      rw c.new-c.ensures (low 2 _ (lit< tt) refl),
      rw c.new.ensures (c.requires.1.low.low (a.i - 1) (omega (arith, c.requires.0.positive, c.requires.1.long))),
    )

pub returns : goal.returns
returns c =
    let a = c.args in
    through_sent (chosen a.field) a.depth a.i a.opening.now c.requires.0 _ c.round_at-at.ensures _ _ _ _ _ _ c.new-a.ensures c.new-b.ensures c.new-c.ensures c.new.ensures c.through.ensures
