use mathlib.Core.Path.{sym, ap, ◌∙◌}
use Rattle.reply.specs.Replies.{reply, given}
use Rattle.job.specs.Outcome.{outcome}
use Rattle.tvarchula.proofs.opening.tv_write_opening.Goals as goal

pub returns-in-Ok : goal.returns-in-Ok
returns-in-Ok c =
    let w = c.write_opening in
    let is = sym c.in-Ok.is in
    record {
      job = w.result;
      answer = ap (λ x. reply (outcome x)) is;
      result = rw (sym c.named-f.ensures) w.ensures;
      single = ap (λ x. given (outcome x) c.args.value.now) is;
    }

pub returns-in-Err : goal.returns-in-Err
returns-in-Err c =
    let w = c.write_opening in
    let is = sym c.in-Err.is in
    record {
      job = w.result;
      answer = c.refused.ensures ∙ ap (λ x. reply (outcome x)) is;
      result = rw (sym c.named-f.ensures) w.ensures;
      single = ap (λ x. given (outcome x) c.args.value.now) is;
    }
