use mathlib.Core.Path.{◌∙◌}
use native.Mathlib.Omega.{arith}
use lib.Pow.{pow_pos}
use Rattle.hash_opened.proofs.Joins.{all_carried}
use Rattle.hash_opened.proofs.write_carried.Goals as goal

pub write_words-requires : goal.write_words-requires
write_words-requires c =
    let h = pow_pos c.args.height in
    let r = c.requires.1 in
    (omega arith, record { one = omega arith; all = r.all })

pub visit-requires : goal.visit-requires
visit-requires c =
    let r = c.requires.1 in
    let k = c.write_words.auto.out in
    (omega (arith, c.requires.0), record { one = r.one; all = omega arith })

pub shape_of-out : goal.shape_of-out
shape_of-out c = c.visit.auto.out ∙ c.write_words.auto.out

pub returns : goal.returns
returns c =
    let a = c.args in
    let v = c.visit in
    (v.ensures.0, all_carried a.height a.block.now a.queries.now a.first a.stride a.out.now c.requires.0 c.requires.1 c.write_words.ensures v.ensures.1)
