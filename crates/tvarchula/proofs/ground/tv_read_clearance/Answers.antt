use mathlib.Core.Path.{sym, ap, ◌∙◌}
use Rattle.reply.specs.Replies.{reading_reply}
use Rattle.tvarchula.proofs.ground.tv_read_clearance.Goals as goal

pub returns : goal.returns
returns c = rw (sym c.named.ensures) (c.told.ensures ∙ ap reading_reply c.read_clearance.ensures)
