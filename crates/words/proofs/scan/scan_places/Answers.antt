use mathlib.Core.Path.{◌≡◌, refl, ◌∙◌}
use mathlib.Core.Bool.{not, ◌&&◌}
use native.Mathlib.Omega.{arith}
use lib.Dec.{ltb, eqb}
use Rattle.algebra.specs.Tests.{not_or, all₂_none, all₂_turn}
use Rattle.words.proofs.scan.scan_places.Goals as goal

pub loop-j-init : goal.loop-j-init
loop-j-init c = let a = c.args in record { below_is = all₂_none (λ x y. ltb x a.p && ltb y a.p) a.s.now a.t.now; apart_is = all₂_none (λ x y. not (eqb x y)) a.s.now a.t.now }

pub loop-j-preserved : goal.loop-j-preserved
loop-j-preserved c =
    let a = c.args in
    let l = c.loop-j in
    let scanned = l.invariant in
    record {
      below_is = not_or l.high _ ∙ all₂_turn (λ x y. ltb x a.p && ltb y a.p) l.j a.s.now a.t.now 0 (omega arith) (omega arith) scanned.below_is c.either_high-high.ensures;
      apart_is = not_or l.equal _ ∙ all₂_turn (λ x y. not (eqb x y)) l.j a.s.now a.t.now 0 (omega arith) (omega arith) scanned.apart_is refl;
    }

pub returns : goal.returns
returns c =
    let l = c.loop-j in
    let a = c.args in
    let done : l.j ≡ a.n = omega arith in
    rw done at l.invariant
