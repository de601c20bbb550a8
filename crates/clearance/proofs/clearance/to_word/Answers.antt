use mathlib.Core.Path.{sym, ap, ◌∙◌}
use Prim.Native.Nat.{◌-◌}
use native.Mathlib.Omega.{arith}
use lib.IntN.{nat_abs}
use Rattle.clearance.specs.Clearances.{residue_by}
use Rattle.clearance.proofs.Signs.{Below, below, Above, above}
use Rattle.clearance.proofs.clearance.to_word.Goals as goal
use Rattle.clearance.proofs.clearance.to_word.Goals.{Else-x-lt0, Then-x-lt0}

-- what the two arms know of x
under : (c : Then-x-lt0) → Below c.args.p c.requires.1 c.args.x
under c = below _ c.requires.1 _ c.requires.0 c.if-x-lt0.true

over : (c : Else-x-lt0) → Above c.args.p c.requires.1 c.args.x
over c = above _ c.requires.1 _ c.requires.0 c.if-x-lt0.false

pub overflow_sub-result : goal.overflow_sub-result
overflow_sub-result c = let b = under c in rw b.negated (record { sfits = omega (arith, b.small) })

pub overflow_cast-result : goal.overflow_cast-result
overflow_cast-result c = let b = under c in rw b.back (tt, record { fits = omega (arith, b.small) })

pub overflow_sub-result-then-x-lt0 : goal.overflow_sub-result-then-x-lt0
overflow_sub-result-then-x-lt0 c = let b = under c in rw b.back (omega (arith, b.small))

pub overflow_cast-result-else-x-lt0 : goal.overflow_cast-result-else-x-lt0
overflow_cast-result-else-x-lt0 c = let a = over c in rw a.back (tt, record { fits = omega (arith, a.small) })

pub returns-then-x-lt0 : goal.returns-then-x-lt0
returns-then-x-lt0 c =
    let b = under c in
    let p = c.args.p in
    ap (λ y. p - nat_abs y) b.back ∙ sym (ap (residue_by p) b.is)

pub returns-else-x-lt0 : goal.returns-else-x-lt0
returns-else-x-lt0 c = let a = over c in ap nat_abs a.back ∙ sym (ap (residue_by c.args.p) a.is)
