use mathlib.Core.Path.{sym, ap, ap₂, ◌∙◌}
use Prim.Native.Nat.{◌-◌}
use native.Mathlib.Omega.{arith}
use Rattle.job.specs.Outcome.{done}
use Rattle.residue.specs.Elements.{P}
use Rattle.residue.specs.Chosen.{chosen}
use Rattle.clearance.specs.Clearances.{free, overlap}
use Rattle.clearance.specs.ClearanceLaws.{border_half}
use Rattle.read_clearance.proofs.Readings.{no_residue, Same, a_residue, reads_contact, reads_free, reads_overlap}
use Rattle.read_clearance.proofs.read_clearance.Goals as goal
use Rattle.read_clearance.proofs.read_clearance.Goals.{After-word-w}

pub returns-in_default : goal.returns-in_default
returns-in_default c = no_residue (chosen c.args.field) c.args.word c.from_word.result c.in_default.not-Some c.from_word.ensures

-- the word that is compared is the one that was passed, and a residue
same : (c : After-word-w) → (let a = c.args in Same (P (chosen a.field)) a.word c.word-w.result)
same c =
    let s = a_residue (chosen c.args.field) _ _ (sym c.in-Some.is ∙ c.from_word.ensures) in
    record { is = c.word-w.ensures ∙ s.is; low = s.low }

pub returns-then-w-eq0 : goal.returns-then-w-eq0
returns-then-w-eq0 c =
    let s = same c.before in
    let a = c.args in
    reads_contact (chosen a.field) a.word (omega (arith, s.is, c.if-w-eq0.true))

pub returns-then-w-word : goal.returns-then-w-word
returns-then-w-word c =
    let s = same c.before.before.before.before in
    let 𝓕 = chosen c.args.field in
    ap (λ v. done (free v)) s.is
    ∙ reads_free 𝓕 _ (omega (arith, s.is, c.if-w-eq0.false)) (omega (arith, s.is, c.if-w-word.true, c.word.ensures, c.half.ensures, border_half 𝓕))

pub returns-else-w-word : goal.returns-else-w-word
returns-else-w-word c =
    let s = same c.before.before.before.before.before in
    let 𝓕 = chosen c.args.field in
    ap₂ (λ u v. done (overlap (u - v))) c.modulus.ensures s.is
    ∙ reads_overlap 𝓕 _ (omega (arith, s.is, c.if-w-word.false, c.word.ensures, c.half.ensures, border_half 𝓕)) s.low
