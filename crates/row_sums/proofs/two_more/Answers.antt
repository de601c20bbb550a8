use mathlib.Core.Path.{◌≡◌, sym, ap, ◌∙◌}
use mathlib.Core.List.{map}
use native.Mathlib.Omega.{arith}
use lib.ListN.{get_or, length-map}
use Rattle.algebra.specs.Filling.{filled_none, filled_old, filled_turn, filled_end, filled_length}
use Rattle.residue.specs.Elements.{sum_product}
use Rattle.residue.specs.Chosen.{chosen}
use Rattle.residue.specs.Scale.{lowered}
use Rattle.row_sums.proofs.Adding.{length_more, more_at}
use Rattle.row_sums.proofs.Lowering.{low_more, lowered_at}
use Rattle.row_sums.proofs.two_more.Goals as goal

pub loop-i-init : goal.loop-i-init
loop-i-init c = (omega arith, omega arith, filled_none _ _)

pub bounds-u-i : goal.bounds-u-i
bounds-u-i c = omega (arith, c.requires.rows.size)

pub bounds-v-i : goal.bounds-v-i
bounds-v-i c = omega (arith, c.requires.rows.size')

pub sum_two-requires : goal.sum_two-requires
sum_two-requires c =
    let l = c.loop-i in
    let p = c.requires.rows in (
      rw (filled_old l.invariant.2 l.i 0 (omega arith)) (c.requires.low.low l.i (omega arith)),
      record { factor = p.factor; word = p.row.low _ (omega (arith, p.size)) },
      record { factor = p.factor'; word = p.row'.low _ (omega (arith, p.size')) },
    )

pub loop-i-preserved : goal.loop-i-preserved
loop-i-preserved c =
    let l = c.loop-i in
    let a = c.args in
    let f = a.field in
    let 𝓣 = low_more f c.requires.rows in
    let long = length-map a.out.now (lowered f) in
    let word : get_or l.out l.i 0 ≡ get_or a.out.now l.i 0 = filled_old l.invariant.2 l.i 0 (omega arith) in
    let same : lowered f (get_or l.out l.i 0) ≡ get_or (map (lowered f) a.out.now) l.i 0 = ap (lowered f) word ∙ sym (lowered_at f a.out.now l.i) in
    let p =
    filled_turn 0 (omega arith) (length_more (chosen f) 𝓣 ∙ long) l.invariant.2
    (c.sum_two.ensures
    ∙ ap (λ x. sum_product (chosen f) (sum_product (chosen f) x (lowered f a.c.0) (get_or a.u.now l.i 0)) (lowered f a.d.0) (get_or a.v.now l.i 0)) same
    ∙ sym (more_at (chosen f) 𝓣 l.i (omega (arith, long)))) in
    (omega arith, filled_length p, p)

pub returns : goal.returns
returns c =
    let l = c.loop-i in
    let f = c.args.field in
    filled_end (omega arith) (length_more (chosen f) (low_more f c.requires.rows) ∙ length-map c.args.out.now (lowered f)) l.invariant.2
