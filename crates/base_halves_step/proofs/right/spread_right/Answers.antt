use native.Mathlib.Nat.{mul-zero}
use native.Mathlib.Omega.{arith}
use Rattle.residue.specs.Chosen.{chosen}
use Rattle.base_halves_step.proofs.Spreading.{turn_next, spread_none, in_message, in_work, behind_lent, spread_turn, spread_end}
use Rattle.base_halves_step.proofs.right.spread_right.Goals as goal

pub overflow_mul-i : goal.overflow_mul-i
overflow_mul-i c = omega (arith, c.requires.behind, c.requires.within)

pub loop-j-init : goal.loop-j-init
loop-j-init c =
    let a = c.args in
    (omega arith, omega (arith, mul-zero a.code.now.k), omega (arith, mul-zero a.code.now.n), spread_none (chosen a.code.now.field) a.code.now.k a.code.now.n a.q a.b a.code.now.g.now a.work.now c.requires)

pub write_base_block-requires : goal.write_base_block-requires
write_base_block-requires c =
    let l = c.loop-j in
    let a = c.args in
    behind_lent (chosen a.code.now.field) a.code.now.k a.code.now.n a.q a.b a.code.now.g.now a.work.now c.requires l.j l.i l.x l.work (omega arith) l.invariant.1 l.invariant.2 l.invariant.3

pub overflow_add-i : goal.overflow_add-i
overflow_add-i c =
    let l = c.loop-j in
    let a = c.args in
    omega (arith, in_message (chosen a.code.now.field) a.code.now.k a.code.now.n a.q a.b a.code.now.g.now a.work.now c.requires l.j l.i l.x l.work (omega arith) l.invariant.1 l.invariant.2 l.invariant.3, c.requires.within)

pub overflow_add-x : goal.overflow_add-x
overflow_add-x c =
    let l = c.loop-j in
    let a = c.args in
    omega (arith, in_work (chosen a.code.now.field) a.code.now.k a.code.now.n a.q a.b a.code.now.g.now a.work.now c.requires l.j l.i l.x l.work (omega arith) l.invariant.1 l.invariant.2 l.invariant.3)

pub loop-j-preserved : goal.loop-j-preserved
loop-j-preserved c =
    let l = c.loop-j in
    let a = c.args in (
      omega arith,
      omega (arith, l.invariant.1, turn_next a.code.now.k l.j),
      omega (arith, l.invariant.2, turn_next a.code.now.n l.j),
      spread_turn (chosen a.code.now.field) a.code.now.k a.code.now.n a.q a.b a.code.now.g.now a.work.now c.requires l.j l.i l.x l.work (omega arith) l.invariant.1 l.invariant.2 l.invariant.3 _ c.write_base_block.ensures,
    )

pub shape_of-work : goal.shape_of-work
shape_of-work c = c.loop-j.invariant.3.long

pub returns : goal.returns
returns c =
    let l = c.loop-j in
    let a = c.args in
    spread_end (chosen a.code.now.field) a.code.now.k a.code.now.n a.q a.b a.code.now.g.now a.work.now c.requires l.j l.work (omega arith) l.invariant.3
