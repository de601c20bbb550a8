use mathlib.Core.Path.{sym, ap, ◌∙◌}
use mathlib.Core.Bool.{not}
use Prim.Native.Nat.{min}
use native.Mathlib.Omega.{arith}
use lib.Dec.{eqb}
use lib.ListN.{length}
use Rattle.job.specs.Outcome.{unless}
use Rattle.words.specs.Scans.{all_differ}
use Rattle.places.specs.Places.{equal_place}
use Rattle.places.specs.PlaceLaws.{place₂_first, place₂_none}
use Rattle.places.specs.Inputs.{no_equal}
use Rattle.places.proofs.Chained.{ended, passed_all}
use Rattle.places.proofs.inputs.judge_diagonals.Goals as goal

pub returns-then-k-min : goal.returns-then-k-min
returns-then-k-min c =
    let a = c.args in
    let t = a.t.now in
    let t' = a.t2.now in
    ended (all_differ t t') (λ k. (6, k, 0)) (equal_place t t') (min (length t) (length t')) _ c.first_equal-k.ensures (place₂_none (λ x y. not (eqb x y)) t t') (omega (arith, c.if-k-min.true, c.min.ensures))
    ∙ sym (ap (λ b. unless b (no_equal t t')) c.if-apart.false)

pub returns : goal.returns
returns c =
    let a = c.args in
    let t = a.t.now in
    let t' = a.t2.now in
    passed_all (all_differ t t') (λ k. (6, k, 0)) (equal_place t t') (min (length t) (length t')) _ c.first_equal-k.ensures (λ q. (place₂_first (λ x y. not (eqb x y)) t t' q).within) (omega (arith, c.if-k-min.false, c.min.ensures))
    ∙ sym (ap (λ b. unless b (no_equal t t')) c.if-apart.false)
