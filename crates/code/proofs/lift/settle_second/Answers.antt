use mathlib.Core.Path.{refl}
use native.Mathlib.Omega.{arith}
use Rattle.algebra.specs.Words.{𝔽₂}
use Rattle.residue.specs.declared.Field.TheVariants.{Second}
use Rattle.residue.specs.ResidueLaws.{is_low}
use Rattle.residue.specs.Scale.{scale_power}
use Rattle.code.proofs.Settling.{settle_none, settle_length, settle_asks, settle_turn, settle_end, factor}
use Rattle.code.proofs.lift.settle_second.Goals as goal

pub times-f-requires : goal.times-f-requires
times-f-requires c = (is_low 𝔽₂ _ c.second_scale.ensures, is_low 𝔽₂ _ c.second_scale-once.ensures)

pub loop-w-init : goal.loop-w-init
loop-w-init c =
    let a = c.args in
    (refl, factor a.depth _ _ _ c.second_scale.ensures c.second_scale-once.ensures c.times-f.ensures, settle_none 𝔽₂ (scale_power Second a.depth) a.out.now)

pub second_settled-requires : goal.second_settled-requires
second_settled-requires c =
    let l = c.loop-w in
    (settle_asks 𝔽₂ (scale_power Second c.args.depth) l.invariant.2 c.requires (omega arith), l.invariant.1.low)

pub loop-w-preserved : goal.loop-w-preserved
loop-w-preserved c =
    let l = c.loop-w in
    let a = c.args in
    let e = scale_power Second a.depth in
    let k = l.invariant.1 in
    let p = settle_turn 𝔽₂ e l.invariant.2 (omega arith) (c.second_settled.ensures e k.is) in
    (settle_length 𝔽₂ e p, k, p)

pub returns : goal.returns
returns c =
    let l = c.loop-w in
    let a = c.args in
    settle_end 𝔽₂ (scale_power Second a.depth) l.invariant.2 (omega arith)
