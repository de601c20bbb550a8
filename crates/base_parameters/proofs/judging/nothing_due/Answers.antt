use mathlib.Core.Path.{refl, sym, ap₂, ◌∙◌}
use mathlib.Core.Bool.{◌&&◌}
use Rattle.residue.specs.Chosen.{chosen}
use Rattle.base_parameters.specs.ParameterLaws.{base_asked, base_answer, flagged_lent}
use Rattle.base_parameters.proofs.judging.nothing_due.Goals as goal

pub base_ok-requires : goal.base_ok-requires
base_ok-requires c =
    let a = c.args in
    let 𝓕 = chosen a.field in
    let lent = flagged_lent 𝓕 a.p.depth a.p.rate a.p.k0 a.g.now a.flags.lengths a.flags.words a.flags.apart c.requires (sym c.in_limits.ensures ∙ c.if-not-in_limits.false) c.if-flags.true in
    base_asked 𝓕 a.p.depth a.p.rate a.p.k0 a.g.now lent c.base_len.ensures

pub returns-then-flags : goal.returns-then-flags
returns-then-flags c =
    let a = c.args in
    let 𝓕 = chosen a.field in
    let lent = flagged_lent 𝓕 a.p.depth a.p.rate a.p.k0 a.g.now a.flags.lengths a.flags.words a.flags.apart c.requires (sym c.in_limits.ensures ∙ c.if-not-in_limits.false) c.if-flags.true in
    base_answer 𝓕 a.p.depth a.p.rate a.p.k0 a.g.now lent c.base_len.ensures c.base_ok.ensures
    ∙ ap₂ ◌&&◌ (sym c.if-not-in_limits.false ∙ c.in_limits.ensures) (ap₂ ◌&&◌ (sym c.if-flags.true) refl)
