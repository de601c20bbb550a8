use mathlib.Core.Path.{subst}
use native.Mathlib.Omega.{arith}
use Rattle.residue.specs.Chosen.{chosen}
use Rattle.polynomial.proofs.LowMonomials.{Extending, extending_none, extending_turn, extending_end}
use Rattle.polynomial.proofs.monomials.extend.Goals as goal

pub loop-b-init : goal.loop-b-init
loop-b-init c = (omega arith, extending_none (chosen c.args.field) _ _ _)

pub times-requires : goal.times-requires
times-requires c =
    let l = c.loop-b in
    (rw (l.invariant.1.kept l.b (omega arith)) (c.requires.words l.b (omega arith)), c.requires.factor)

pub loop-b-preserved : goal.loop-b-preserved
loop-b-preserved c =
    let l = c.loop-b in
    (omega arith, extending_turn (chosen c.args.field) l.b c.args.size c.args.x c.times.result c.args.w.now l.w c.requires.room (omega arith) c.times.ensures l.invariant.1)

pub shape_of-w : goal.shape_of-w
shape_of-w c = c.loop-b.invariant.1.long

pub returns : goal.returns
returns c =
    let l = c.loop-b in
    let a = c.args in
    let 𝓕 = chosen a.field in
    extending_end 𝓕 a.size a.x a.w.now l.w (subst (λ b. Extending 𝓕 b a.size a.x a.w.now l.w) (omega arith) l.invariant.1)
