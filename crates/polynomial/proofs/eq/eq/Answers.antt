use native.Mathlib.Omega.{arith}
use Rattle.residue.specs.Chosen.{chosen}
use Rattle.residue.specs.ResidueLaws.{is_low}
use Rattle.polynomial.proofs.Factors.{factors_none, factors_turn, factors_end}
use Rattle.polynomial.proofs.eq.eq.Goals as goal

pub loop-i-init : goal.loop-i-init
loop-i-init c = let a = c.args in (omega arith, factors_none (chosen a.field) a.z.now a.x.now)

pub factor_at-requires : goal.factor_at-requires
factor_at-requires c = (c.requires.0, c.requires.1, omega arith, omega (arith, c.requires.2))

pub times-e-requires : goal.times-e-requires
times-e-requires c = let 𝓕 = chosen c.args.field in (is_low 𝓕 _ c.loop-i.invariant.1, is_low 𝓕 _ c.factor_at.ensures)

pub loop-i-preserved : goal.loop-i-preserved
loop-i-preserved c = let a = c.args in let l = c.loop-i in (omega arith, factors_turn (chosen a.field) a.z.now a.x.now l.i l.invariant.1 c.factor_at.ensures c.times-e.ensures)

pub returns : goal.returns
returns c = let a = c.args in let l = c.loop-i in factors_end (chosen a.field) a.z.now a.x.now l.i (omega arith) l.invariant.1
