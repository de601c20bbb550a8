use mathlib.Core.Path.{ap, ◌∙◌}
use Rattle.residue.specs.Chosen.{chosen}
use Rattle.basefold.specs.Checks.{first_failure}
use Rattle.base_verify.proofs.LastClaim.{last_lent, last_check}
use Rattle.base_verify.proofs.claimed.last_rows.Goals as goal

pub last-requires : goal.last-requires
last-requires c = last_lent (chosen c.args.code.now.field) c.requires c.final_words-v.ensures

pub returns : goal.returns
returns c = c.last.ensures ∙ ap first_failure (last_check (chosen c.args.code.now.field) c.requires c.final_words-v.ensures)
