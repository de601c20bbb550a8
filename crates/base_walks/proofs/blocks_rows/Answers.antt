use mathlib.Core.Path.{ap, ◌∙◌}
use Rattle.residue.specs.Chosen.{chosen}
use Rattle.basefold.specs.Checks.{first_failure}
use Rattle.std.proofs.lemmas.Result.{err_from_is_err_and}
use Rattle.verdict.specs.FirstFailure.{append_fails, append_holds}
use Rattle.base_walks.proofs.BaseRows.{bases_lent, checks_are}
use Rattle.base_walks.proofs.blocks_rows.Goals as goal

pub bases-requires : goal.bases-requires
bases-requires c = bases_lent (chosen c.args.code.now.field) c.requires.0 c.final_words-v.ensures c.level_block-bottom.ensures

pub returns-in_err-bases : goal.returns-in_err-bases
returns-in_err-bases c =
    let p = err_from_is_err_and c.from_residual.result c.from_residual.ensures.1 in
    rw (p.1, p.2) (append_fails _ _ (c.in_err-bases.ensures ∙ ap first_failure (checks_are (chosen c.args.code.now.field) c.requires.0 c.final_words-v.ensures c.level_block-bottom.ensures)))

pub returns : goal.returns
returns c =
    append_holds _ _ (c.in_ok-bases.ensures ∙ ap first_failure (checks_are (chosen c.args.code.now.field) c.requires.0 c.final_words-v.ensures c.level_block-bottom.ensures)) c.folds_rows.ensures
