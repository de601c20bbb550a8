use mathlib.Core.Path.{◌≡◌, ap, ap₂, ◌∙◌}
use mathlib.Core.List.{map}
use Rattle.residue.specs.Chosen.{chosen}
use Rattle.residue.specs.ResidueLaws.{is_low}
use Rattle.residue.specs.Scale.{lowered}
use Rattle.row_sums.specs.Sums.{TwoLent, added_scaled, two_scaled}
use Rattle.row_sums.proofs.Lowering.{lowered_raised, lowered_twice, lowered_rows, low_two, raise_two, next_lent}
use Rattle.row_sums.proofs.four_rows.Goals as goal
use Rattle.row_sums.proofs.four_rows.Goals.{After-raised-s}

pub raised-p-requires : goal.raised-p-requires
raised-p-requires c = is_low (chosen c.args.field) _ c.raised.ensures

pub raised-q-requires : goal.raised-q-requires
raised-q-requires c = is_low (chosen c.args.field) _ c.raised-2.ensures

pub two_raised-requires : goal.two_raised-requires
two_raised-requires c =
    let front : TwoLent (chosen c.args.field) c.raised-p.result.0 c.raised-q.result.0 c.args.g.now c.args.h.now c.args.out.now = let f = c.args.field in
    raise_two f c.raised.result.0 c.raised-2.result.0 _ _ c.raised-p.ensures c.raised-q.ensures
    (raise_two f c.args.a.0 c.args.b.0 _ _ c.raised.ensures c.raised-2.ensures c.requires.front) in
    front

pub two_more-requires : goal.two_more-requires
two_more-requires c =
    let front : TwoLent (chosen c.args.field) c.raised-p.result.0 c.raised-q.result.0 c.args.g.now c.args.h.now c.args.out.now = let f = c.args.field in
    raise_two f c.raised.result.0 c.raised-2.result.0 _ _ c.raised-p.ensures c.raised-q.ensures
    (raise_two f c.args.a.0 c.args.b.0 _ _ c.raised.ensures c.raised-2.ensures c.requires.front) in
    let back : TwoLent (chosen c.args.field) c.raised-r.result.0 c.raised-s.result.0 c.args.u.now c.args.v.now c.args.out.now = raise_two c.args.field c.args.c.0 c.args.d.0 _ _ c.raised-r.ensures c.raised-s.ensures c.requires.back in
    let q = c.before.before.before.before.before in
    next_lent c.args.field (low_two c.args.field (front)) (back) _ c.two_raised.ensures

pub returns : goal.returns
returns c =
    let front : TwoLent (chosen c.args.field) c.raised-p.result.0 c.raised-q.result.0 c.args.g.now c.args.h.now c.args.out.now = let f = c.args.field in
    raise_two f c.raised.result.0 c.raised-2.result.0 _ _ c.raised-p.ensures c.raised-q.ensures
    (raise_two f c.args.a.0 c.args.b.0 _ _ c.raised.ensures c.raised-2.ensures c.requires.front) in
    let back : TwoLent (chosen c.args.field) c.raised-r.result.0 c.raised-s.result.0 c.args.u.now c.args.v.now c.args.out.now = raise_two c.args.field c.args.c.0 c.args.d.0 _ _ c.raised-r.ensures c.raised-s.ensures c.requires.back in
    let q = c.before.before.before.before.before.before.before.before in
    let a = c.args in
    let p = c.requires in
    let f = a.field in
    let 𝓕 = chosen f in
    let first = lowered_twice f a.a.0 _ _ p.front.factor c.raised.ensures c.raised-p.ensures in
    let second = lowered_twice f a.b.0 _ _ p.front.factor' c.raised-2.ensures c.raised-q.ensures in
    let third = lowered_raised f a.c.0 _ p.back.factor c.raised-r.ensures in
    let fourth = lowered_raised f a.d.0 _ p.back.factor' c.raised-s.ensures in
    let two : _ ≡ two_scaled 𝓕 a.a.0 a.b.0 a.g.now a.h.now =
    ap (map (lowered f)) c.two_raised.ensures ∙ lowered_rows f (low_two f (front)) ∙ ap₂ (λ m n. two_scaled 𝓕 m n a.g.now a.h.now) first second in
    c.two_more.ensures ∙ (λ i. added_scaled 𝓕 (fourth i) a.v.now (added_scaled 𝓕 (third i) a.u.now (two i)))
