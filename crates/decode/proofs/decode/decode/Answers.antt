use mathlib.Core.Path.{refl, sym, ap, ◌∙◌}
use Rattle.std.proofs.lemmas.Result.{err_from_is_err_and}
use native.Mathlib.Omega.{arith}
use Rattle.job.specs.SizeLaws.{low_most}
use Rattle.residue.specs.Chosen.{chosen}
use Rattle.job.specs.Outcome.{outcome}
use Rattle.decode.specs.Decoding.{refusal, settled}
use Rattle.decode.specs.Laws.{decodes, base_lent, decode_rows}
use Rattle.decode.proofs.decode.decode.Goals as goal

pub overflow_cast-low : goal.overflow_cast-low
overflow_cast-low c = record { fits = omega (arith, c.low_len-low.ensures, low_most c.args.p.k0) }

pub base_len-n-requires : goal.base_len-n-requires
base_len-n-requires c =
    let a = c.args in
    (decodes (chosen a.field) a.p.depth a.p.rate a.p.k0 a.g.now a.t.now a.t2.now a.block.now _ _ (sym c.judge.ensures ∙ ap outcome c.in_ok-judge.was)).within

pub invert-inverse-requires : goal.invert-inverse-requires
invert-inverse-requires c =
    let a = c.args in
    let 𝓓 = decodes (chosen a.field) a.p.depth a.p.rate a.p.k0 a.g.now a.t.now a.t2.now a.block.now _ _ (sym c.judge.ensures ∙ ap outcome c.in_ok-judge.was) in
    base_lent (chosen a.field) a.p.depth a.p.rate a.p.k0 a.g.now a.t.now a.t2.now a.block.now _ _ 𝓓 c.base_len-n.ensures

pub settle-requires : goal.settle-requires
settle-requires c =
    let a = c.args in
    let 𝓓 = decodes (chosen a.field) a.p.depth a.p.rate a.p.k0 a.g.now a.t.now a.t2.now a.block.now _ _ (sym c.judge.ensures ∙ ap outcome c.in_ok-judge.was) in
    (decode_rows (chosen a.field) a.p.depth a.p.rate a.p.k0 a.g.now a.t.now a.t2.now a.block.now _ _ 𝓓 c.base_len-n.ensures c.invert-inverse.ensures, 𝓓.result)

pub returns : goal.returns
returns c =
    let e = c.settle.ensures in
    settled (sym c.judge.ensures ∙ ap outcome c.in_ok-judge.was) (rw c.base_len-n.ensures at e.0) e.1

pub returns-in_err-judge : goal.returns-in_err-judge
returns-in_err-judge c =
    let p = err_from_is_err_and c.from_residual.result c.from_residual.ensures.1 in
    rw (p.1, p.2) (refusal _ (sym c.judge.ensures ∙ ap outcome c.in_err-judge.was) refl refl refl)
