use mathlib.Core.Path.{◌≡◌, refl, sym, ap₂, ◌∙◌}
use mathlib.Core.List.{map}
use Prim.Native.Nat.{ℕ, ◌≤◌}
use native.Mathlib.Omega.{arith}
use lib.ListN.{length, get_or, replicate, length-map, length-replicate, get_or-replicate, length-set}
use Rattle.algebra.specs.Filling.{filled_none, filled_turn, filled_end, filled_length, filled_old}
use Rattle.residue.specs.Chosen.{chosen, most}
use Rattle.clearance.specs.Clearances.{clearance_by}
use Rattle.clearance.specs.ClearanceLaws.{border_half}
use Rattle.clearance.proofs.Signs.{read_at}
use Rattle.clearance.proofs.slices.to_clearances.Goals as goal

pub loop-i-init : goal.loop-i-init
loop-i-init c = (omega arith, refl, omega arith, filled_none _ _, filled_none _ _)

pub to_clearance-x-requires : goal.to_clearance-x-requires
to_clearance-x-requires c =
    let l = c.loop-i in
    let m = c.before.before.before.before.before in
    let same = filled_old l.invariant.4 l.i 0 (omega arith) in
    (omega (arith, same, c.requires.1.low l.i (omega arith), c.modulus-p.ensures), omega (arith, most c.args.field, c.modulus-p.ensures))

pub loop-i-preserved : goal.loop-i-preserved
loop-i-preserved c =
    let l = c.loop-i in
    let w = c.before.before.before.before in
    let m = w.before.before in
    let s = c.args.s.now in
    let n = length s in
    let border = c.word-border.result in
    let p = c.modulus-p.result in
    let same = filled_old l.invariant.4 l.i 0 (omega arith) in
    let top : p ≤ 2147483647 = omega (arith, most c.args.field, c.modulus-p.ensures) in
    let is = read_at p top border s l.i c.to_clearance-x.ensures same (omega (arith, same, c.requires.1.low l.i (omega arith), c.modulus-p.ensures)) in
    let o = filled_turn (clearance_by border p 0) (omega arith) (omega (arith, length-map s (clearance_by border p))) l.invariant.3 is in
    let zero : ◌≡◌ {A = ℕ} 0 (get_or (replicate n 0) l.i 0) = sym (get_or-replicate n l.i 0 0 (omega arith)) in
    let q = filled_turn 0 (omega arith) (length-replicate n 0) l.invariant.4 zero in
    (omega arith, simp length-set l.invariant.1, omega (arith, filled_length o), o, q)

pub returns : goal.returns
returns c =
    let l = c.loop-i in
    let w = c.before.before in
    let m = w.before.before in
    let s = c.args.s.now in
    let 𝓕 = chosen c.args.field in
    let border = c.word-border.ensures ∙ c.half.ensures ∙ sym (border_half 𝓕) in (
      filled_end (omega arith) (omega (arith, length-map s (clearance_by c.word-border.result c.modulus-p.result))) l.invariant.3
          ∙ ap₂ (λ b p. map (clearance_by b p) s) border c.modulus-p.ensures,
      filled_end (omega arith) (length-replicate (length s) 0) l.invariant.4,
    )
