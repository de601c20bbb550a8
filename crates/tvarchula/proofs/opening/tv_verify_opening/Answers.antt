use mathlib.Core.Path.{sym, ap, ◌∙◌}
use Rattle.reply.specs.Replies.{triple}
use Rattle.tvarchula.proofs.opening.tv_verify_opening.Goals as goal

pub returns : goal.returns
returns c = rw (sym c.named.ensures) (c.told.ensures ∙ ap triple c.verify_opening.ensures)
