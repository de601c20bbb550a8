use mathlib.Core.Path.{sym, ap, ap₂, ◌∙◌}
use native.Mathlib.Omega.{arith}
use Rattle.job.specs.Outcome.{done, outcome}
use Rattle.job.specs.OutcomeLaws.{after_refused, after_done, kept_done, kept_refused}
use Rattle.job.specs.SizeLaws.{low_most}
use Rattle.std.proofs.lemmas.Result.{err_from_is_err_and}
use Rattle.residue.specs.Chosen.{chosen}
use Rattle.base_rounds.specs.RowOpening.{opening_rows}
use Rattle.open.proofs.Judged.{all_within, may_write}
use Rattle.open.proofs.write_opening.Goals as goal

pub overflow_cast-low : goal.overflow_cast-low
overflow_cast-low c = record { fits = omega (arith, c.low_len-low.ensures, low_most c.args.p.k0) }

pub base_len-n-requires : goal.base_len-n-requires
base_len-n-requires c = let a = c.args in all_within (chosen a.field) a.p.depth a.p.rate a.p.k0 a.g.now a.t.now a.t2.now a.message.now a.z.now a.r.now _ _ (sym c.judge.ensures ∙ ap outcome c.in_ok-judge.was)

pub write_rows-v-requires : goal.write_rows-v-requires
write_rows-v-requires c = let a = c.args in may_write (chosen a.field) a.p.depth a.p.rate a.p.k0 a.g.now a.t.now a.t2.now a.message.now a.z.now a.r.now _ _ (sym c.judge.ensures ∙ ap outcome c.in_ok-judge.was) c.low_len-low.ensures c.base_len-n.ensures

pub returns : goal.returns
returns c =
    let a = c.args in
    let e = sym c.judge.ensures ∙ ap outcome c.in_ok-judge.was in
    let w = c.write_rows-v.ensures in
    let written = w.opened ∙ ap₂ (λ l n. opening_rows (chosen a.field) l a.p.k0 n a.g.now a.t.now a.t2.now a.message.now a.z.now a.r.now) c.low_len-low.ensures c.base_len-n.ensures in
    record { answer = after_done (sym e) (ap done (c.word.ensures ∙ w.value)); result = kept_done _ e written; work = kept_done _ e w.cleared }

pub returns-in_err-judge : goal.returns-in_err-judge
returns-in_err-judge c =
    let a = c.args in
    let e = ap outcome (sym c.in_err-judge.was) ∙ c.judge.ensures in
    let p = err_from_is_err_and c.from_residual.result c.from_residual.ensures.1 in
    rw (p.1, p.2) (record { answer = after_refused _ e; result = kept_refused a.opening.now _ (sym e); work = kept_refused a.work.now _ (sym e) })
