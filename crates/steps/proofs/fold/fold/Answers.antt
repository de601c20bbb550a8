use native.Mathlib.Omega.{arith}
use Rattle.algebra.specs.Filling.{filled_none, filled_length}
use Rattle.residue.specs.Chosen.{chosen}
use Rattle.steps.proofs.Folds.{unread_low, fold_turn, fold_end}
use Rattle.steps.proofs.fold.fold.Goals as goal

pub loop-j-init : goal.loop-j-init
loop-j-init c = (omega arith, filled_none _ _)

pub bounds-m-j : goal.bounds-m-j
bounds-m-j c = omega (arith, filled_length c.loop-j.invariant.1)

pub bounds-m-k : goal.bounds-m-k
bounds-m-k c = omega (arith, filled_length c.loop-j.invariant.1)

pub plus_scaled-requires : goal.plus_scaled-requires
plus_scaled-requires c = let a = c.args in let 𝓕 = chosen a.field in let l = c.loop-j in (unread_low 𝓕 a.a a.m.now c.requires _ l.invariant.1 (omega arith) (omega arith), c.requires.challenge, unread_low 𝓕 a.a a.m.now c.requires _ l.invariant.1 (omega arith) (omega arith))

pub bounds-m-j-in-loop-j : goal.bounds-m-j-in-loop-j
bounds-m-j-in-loop-j c = omega (arith, filled_length c.loop-j.invariant.1)

pub loop-j-preserved : goal.loop-j-preserved
loop-j-preserved c = let a = c.args in let l = c.loop-j in (omega arith, fold_turn (chosen a.field) a.a a.m.now c.requires _ (omega arith) l.invariant.1 c.plus_scaled.ensures)

pub shape_of-m : goal.shape_of-m
shape_of-m c = filled_length c.loop-j.invariant.1

pub returns : goal.returns
returns c = let a = c.args in let l = c.loop-j in fold_end (chosen a.field) a.a a.m.now c.requires (omega arith) l.invariant.1
