use mathlib.Core.Path.{sym, ap, ◌∙◌}
use Rattle.job.specs.Outcome.{outcome}
use Rattle.job.specs.OutcomeLaws.{kept_done}
use Rattle.residue.specs.Chosen.{chosen}
use Rattle.lines.specs.Folds.{fold_words}
use Rattle.fold.proofs.Judged.{no_refusal_due}
use Rattle.fold.proofs.fold.Goals as goal

pub new-requires : goal.new-requires
new-requires c = (no_refusal_due (chosen c.args.field) _ _ _ _ _ _ _ _ (sym c.judge.ensures ∙ ap outcome c.in_ok-judge.was)).challenge

pub fold_block-requires : goal.fold_block-requires
fold_block-requires c =
    let u = no_refusal_due (chosen c.args.field) _ _ _ _ _ _ _ _ (sym c.judge.ensures ∙ ap outcome c.in_ok-judge.was) in
    (u.diagonals, u.first, u.second, u.whole, u.low, rw c.new.ensures u.challenge)

pub returns : goal.returns
returns c =
    let a = c.args in
    let e = sym c.judge.ensures ∙ ap outcome c.in_ok-judge.was in
    let u = no_refusal_due (chosen a.field) _ _ _ _ _ _ _ _ e in
    record {
      answer = sym (ap outcome c.in_ok-judge.was) ∙ c.judge.ensures;
      result = kept_done a.out.now e (c.fold_block.ensures ∙ (λ k. fold_words (chosen a.field) (u.size k) a.t.now a.t2.now a.block.now (c.new.ensures k)));
    }
