use mathlib.Core.Path.{◌≡◌, refl, sym, ap, ◌∙◌}
use mathlib.Core.Bool.{true, ◌&&◌}
use mathlib.Core.List.{[], ◌∷◌}
use native.Mathlib.Omega.{arith}
use lib.Dec.{eqb}
use lib.ListN.{length}
use borrow.Author.Rules.{rules}
use Rattle.algebra.specs.Tests.{all}
use Rattle.residue.specs.Chosen.{chosen}
use Rattle.job.specs.declared.Input.TheVariants.{Block}
use Rattle.job.specs.Outcome.{outcome}
use Rattle.job.specs.OutcomeLaws.{held, pass, pass_demand}
use Rattle.places.specs.Inputs.{in_order}
use Rattle.places.specs.FlagLaws.{words_flagged}
use Rattle.table_length.specs.DepthLaws.{length_most, table_power}
use Rattle.table.proofs.judge.Goals as goal

pub judge_without_row-requires : goal.judge_without_row-requires
judge_without_row-requires c =
    let a = c.args in
    let most = length_most _ (table_power a.p.k0 _ (sym c.table_ok.ensures ∙ held _ 1 (sym c.require.ensures ∙ ap outcome c.in_ok-require.was))) in
    search rules

pub returns : goal.returns
unfolding all
returns c =
    let a = c.args in
    let m = a.m.now in
    let n = length m in
    let three : (eqb a.table n && eqb a.work n) ≡ true = grind arith in
    pass 1 (sym c.table_ok.ensures ∙ held _ 1 (sym c.require.ensures ∙ ap outcome c.in_ok-require.was))
    (pass 13 (sym c.k0_ok.ensures ∙ held _ 13 (sym c.require-2.ensures ∙ ap outcome c.in_ok-require-2.was))
    (pass 3 three
    (c.judge_without_row.ensures ∙ words_flagged (chosen a.field) c.all_below-below.result (in_order [] [] [] m [] [] [] []) ((Block, m) ∷ []) refl (λ q. sym (pass_demand _ (sym c.all_below-below.ensures ∙ q) refl)))))
