use mathlib.Core.Path.{◌≡◌, sym, ap, subst, ◌∙◌}
use Prim.Native.Nat.{ℕ, ◌<◌}
use Rattle.algebra.specs.Words.{𝔽₁}
use Rattle.residue.specs.Elements.{elem, word, Low}
use Rattle.residue.specs.Chosen.{chosen}
use Rattle.residue.specs.Scale.{room}
use Rattle.residue.specs.declared.Field.{Field as Choice}
use Rattle.residue.specs.declared.Residue.{Residue}
use Rattle.lines.specs.Steps.{line_by, unscaled}
use Rattle.lines.proofs.Loose.{unscaled_first}
use Rattle.lines.proofs.draw.line.Goals as goal

-- what is lent and what comes back, of a field
abbrev Lent : (a t : Residue) (s : ℕ) (u v : Residue) → Choice → Type 0
Lent a t s u v f = Low (chosen f) a × Low (chosen f) t × (s < room f) × Low (chosen f) u × Low (chosen f) v

abbrev Drawn : (a t : Residue) (s : ℕ) (u v r : Residue) → Choice → Type 0
Drawn a t s u v r f = r.0 ≡ word (chosen f) (line_by (chosen f) (elem (chosen f) a) (elem (chosen f) t) (unscaled f s) (elem (chosen f) u) (elem (chosen f) v))

pub first_line-requires : goal.first_line-requires
first_line-requires c = let a = c.args in subst (Lent a.a a.t a.s a.u a.v) c.in-First.is c.requires

pub second_line-requires : goal.second_line-requires
second_line-requires c = let a = c.args in subst (Lent a.a a.t a.s a.u a.v) c.in-Second.is c.requires

pub returns-in-First : goal.returns-in-First
returns-in-First c =
    let a = c.args in
    subst (Drawn a.a a.t a.s a.u a.v c.first_line.result) (sym c.in-First.is)
    (c.first_line.ensures ∙ ap (λ x. word 𝔽₁ (line_by 𝔽₁ (elem 𝔽₁ a.a) (elem 𝔽₁ a.t) x (elem 𝔽₁ a.u) (elem 𝔽₁ a.v))) (unscaled_first a.s))

pub returns-in-Second : goal.returns-in-Second
returns-in-Second c = let a = c.args in subst (Drawn a.a a.t a.s a.u a.v c.second_line.result) (sym c.in-Second.is) c.second_line.ensures
