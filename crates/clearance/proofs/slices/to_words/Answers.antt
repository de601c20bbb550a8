use mathlib.Core.Path.{sym, ap, ◌∙◌}
use mathlib.Core.List.{map}
use native.Mathlib.Omega.{arith}
use lib.IntN.{pos, nat_abs}
use lib.ListN.{get_or, length-map, get_or-map}
use Rattle.algebra.specs.Filling.{filled_none, filled_turn, filled_end, filled_length}
use Rattle.algebra.specs.Tests.{all_at}
use Rattle.residue.specs.Chosen.{chosen, most}
use Rattle.clearance.specs.Clearances.{in_range, residue_by}
use Rattle.clearance.proofs.Signs.{read_any, range_abs}
use Rattle.clearance.proofs.slices.to_words.Goals as goal

pub loop-i-init : goal.loop-i-init
loop-i-init c = (omega arith, omega arith, filled_none _ _)

pub to_word-requires : goal.to_word-requires
to_word-requires c =
    let l = c.loop-i in
    let m = c.before.before.before in
    let f = c.args.field in
    let x = get_or c.args.s.now l.i (pos 0) in
    let in_range_lem = all_at (in_range (chosen f)) c.args.s.now (pos 0) c.requires.1 l.i (omega arith) in
    (omega (arith, ap nat_abs (read_any x c.to_word-arg-1.given), range_abs (chosen f) x in_range_lem, c.modulus-p.ensures), omega (arith, most f, c.modulus-p.ensures))

pub loop-i-preserved : goal.loop-i-preserved
loop-i-preserved c =
    let l = c.loop-i in
    let s = c.args.s.now in
    let p = c.modulus-p.result in
    let read = ap (residue_by p) (read_any (get_or s l.i (pos 0)) c.to_word-arg-1.given) in
    let is = c.to_word.ensures ∙ read ∙ sym (get_or-map (residue_by p) s l.i (pos 0)) in
    let q = filled_turn 0 (omega arith) (omega (arith, length-map s (residue_by p))) l.invariant.2 is in
    (omega arith, omega (arith, filled_length q), q)

pub returns : goal.returns
returns c =
    let l = c.loop-i in
    let s = c.args.s.now in
    filled_end (omega arith) (omega (arith, length-map s (residue_by c.modulus-p.result))) l.invariant.2 ∙ ap (λ p. map (residue_by p) s) c.modulus-p.ensures
