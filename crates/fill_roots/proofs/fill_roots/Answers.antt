use mathlib.Core.Path.{sym}
use lib.ListN.{length}
use Rattle.std.specs.Prelude.{Err}
use Rattle.std.proofs.lemmas.Result.{err_from_is_err_and}
use Rattle.fill_roots.specs.Filling.{judge_filling, exponent}
use Rattle.fill_roots.proofs.Judging.{given_on, refused_before, lent_room, call_done, call_refused}
use Rattle.fill_roots.proofs.fill_roots.Goals as goal

pub returns-in_err-e : goal.returns-in_err-e
returns-in_err-e c =
    let a = c.args in
    let told = refused_before (judge_filling a.p.depth a.p.rate a.p.k0 (length a.g.now) (length a.t.now) (length a.t2.now)) (exponent a.p.rate) c.in_err-e.ensures in
    let p = err_from_is_err_and c.from_residual.result c.from_residual.ensures.1 in
    rw (p.1, p.2) (call_refused a.p.depth a.p.rate a.p.k0 a.g.now a.t.now a.t2.now {r = Err c.in_err-e.field-0.0} told (sym told))

pub fill-requires : goal.fill-requires
fill-requires c =
    let a = c.args in
    let e = given_on (judge_filling a.p.depth a.p.rate a.p.k0 (length a.g.now) (length a.t.now) (length a.t2.now)) c.in_ok-e.ensures in
    lent_room a.p.depth a.p.rate a.p.k0 a.g.now a.t.now a.t2.now e.0 e.1

pub returns : goal.returns
returns c =
    let a = c.args in
    let e = given_on (judge_filling a.p.depth a.p.rate a.p.k0 (length a.g.now) (length a.t.now) (length a.t2.now)) c.in_ok-e.ensures in
    call_done a.p.depth a.p.rate a.p.k0 a.g.now a.t.now a.t2.now e.0 e.1 (sym e.0) c.fill.ensures
