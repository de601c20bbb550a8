use mathlib.Core.Path.{◌≡◌, sym, ap, subst, ◌∙◌}
use Prim.Native.Nat.{◌<◌}
use Rattle.algebra.specs.Words.{𝔽₁, 𝔽₂}
use Rattle.residue.specs.declared.Field.TheVariants.{Second}
use Rattle.residue.specs.Elements.{P, K, el, word, product}
use Rattle.residue.specs.Chosen.{chosen}
use Rattle.residue.specs.ResidueLaws.{is_low, stands}
use Rattle.residue.specs.Scale.{scale}
use Rattle.residue.specs.ScaleLaws.{one_power}
use Rattle.row_sums.proofs.raised.Goals as goal

pub times-requires : goal.times-requires
times-requires c =
    (subst (λ f. c.args.a.0 < P (chosen f)) c.in-Second.is c.requires, is_low 𝔽₂ _ c.second_scale.ensures)

pub returns-in-First : goal.returns-in-First
returns-in-First c =
    let a = c.args.a.0 in
    let low = subst (λ f. a < P (chosen f)) c.in-First.is c.requires in
    let one : a ≡ product 𝔽₁ a 1 = sym (ap (word 𝔽₁) (ap ((K 𝔽₁).◌*◌ (el 𝔽₁ a)) 𝔽₁.words.el_one ∙ (K 𝔽₁).mul-one (el 𝔽₁ a)) ∙ 𝔽₁.words.val_el a low) in
    subst (λ f. a ≡ product (chosen f) a (scale f)) (sym c.in-First.is) one

pub returns-in-Second : goal.returns-in-Second
returns-in-Second c =
    let a = c.args.a.0 in
    let r = c.times.result.0 in
    subst (λ f. r ≡ product (chosen f) a (scale f)) (sym c.in-Second.is)
    (c.times.ensures ∙ ap (λ x. word 𝔽₂ ((K 𝔽₂).◌*◌ (el 𝔽₂ a) x)) (stands 𝔽₂ _ c.second_scale.ensures ∙ one_power Second))
