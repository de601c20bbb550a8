use mathlib.Core.Path.{sym, ap, subst, ◌∙◌}
use Prim.Native.Nat.{◌*◌}
use lib.ListN.{take}
use lib.Seq.{paste}
use Rattle.residue.specs.Chosen.{chosen}
use Rattle.base_same.specs.Steps.{BaseLent, column_words}
use Rattle.base_same.proofs.column.write_column.Goals as goal

pub write_scaled-requires : goal.write_scaled-requires
write_scaled-requires c =
    let a = c.args in
    subst (λ k. BaseLent (chosen a.code.now.field) k a.code.now.n a.q a.j a.code.now.g.now a.w.now) c.if-code-eq1.true c.requires

pub returns-then-code-eq1 : goal.returns-then-code-eq1
returns-then-code-eq1 c =
    let a = c.args in
    c.write_scaled.ensures
    ∙ ap (λ k. paste a.w.now (k * a.q) (column_words (chosen a.code.now.field) k a.code.now.n a.q a.j a.code.now.g.now (take (k * a.q) a.w.now)) a.q) (sym c.if-code-eq1.true)
