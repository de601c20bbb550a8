use mathlib.Core.Path.{sym, ap, ◌∙◌}
use Rattle.job.specs.Outcome.{outcome}
use Rattle.reply.specs.Replies.{reply, given}
use Rattle.tvarchula.proofs.ground.tv_evaluate.Goals as goal

pub returns-in-Ok : goal.returns-in-Ok
returns-in-Ok c =
    let e = c.evaluate in
    let is = sym c.in-Ok.is in
    record { job = e.result; answer = ap (λ x. reply (outcome x)) is; result = rw (sym c.named.ensures) e.ensures; single = ap (λ x. given (outcome x) c.args.value.now) is }

pub returns-in-Err : goal.returns-in-Err
returns-in-Err c =
    let e = c.evaluate in
    let is = sym c.in-Err.is in
    record {
      job = e.result;
      answer = c.refused.ensures ∙ ap (λ x. reply (outcome x)) is;
      result = rw (sym c.named.ensures) e.ensures;
      single = ap (λ x. given (outcome x) c.args.value.now) is;
    }
