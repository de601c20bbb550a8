use mathlib.Core.Path.{sym, ap, ◌∙◌}
use Prim.Native.Nat.{◌-◌, ◌/◌}
use lib.ListN.{length, length-set}
use Rattle.algebra.specs.Lists.{put}
use Rattle.algebra.specs.Puts.{put_none}
use Rattle.numeral.specs.Numeral.{bytes_in}
use native.Mathlib.Omega.{arith}
use Rattle.numeral.proofs.Writes.{bytes_none, bytes_last, length_last, length_more, put_last, length_written, write_more}
use Rattle.numeral.proofs.write.+write_in.Goals as goal

pub returns-then-left-eq0 : goal.returns-then-left-eq0
returns-then-left-eq0 t c = let a = c.args in let none = bytes_none a.left a.n c.if-left-eq0.true in (omega (arith, ap length none), put_none a.at a.out.now ∙ ap (λ xs. put a.at xs a.out.now) (sym none))

pub bounds-out-at : goal.bounds-out-at
bounds-out-at t c = let a = c.args in let e = length_last a.left a.n c.if-left-eq0.false (omega arith) in let p = c.requires in omega arith

pub returns-then-n-lt128 : goal.returns-then-n-lt128
returns-then-n-lt128 t c =
    let a = c.args in
    let some = c.if-left-eq0.false in
    let e = length_last a.left a.n some (omega arith) in
    let p = c.requires in
    (omega arith, put_last a.out.now a.at a.n (omega arith) ∙ ap (λ xs. put a.at xs a.out.now) (sym (bytes_last a.left a.n some (omega arith))))

pub bounds-out-at-2 : goal.bounds-out-at-2
bounds-out-at-2 t c = let a = c.args in let e = length_more a.left a.n c.if-left-eq0.false (omega arith) in let p = c.requires in omega arith

pub write_in-requires : goal.write_in-requires
write_in-requires t c =
    let a = c.args in
    let e = length_more a.left a.n c.if-left-eq0.false (omega arith) in
    let p = c.requires in
    (omega arith, simp length-set (omega arith))

pub shape_of-out : goal.shape_of-out
shape_of-out t c =
    let a = c.args in
    let w = c.write_in.ensures in
    let e = length_more a.left a.n c.if-left-eq0.false (omega arith) in
    let p = c.requires in
    ap length w.1 ∙ length_written a.out.now a.at _ (bytes_in (a.left - 1) (a.n / 128)) (omega arith)

pub returns : goal.returns
returns t c =
    let a = c.args in
    let w = c.write_in.ensures in
    let some = c.if-left-eq0.false in
    let e = length_more a.left a.n some (omega arith) in
    let p = c.requires in
    (w.0 ∙ omega arith, w.1 ∙ write_more a.left a.n some a.out.now a.at (omega arith) (omega arith))
