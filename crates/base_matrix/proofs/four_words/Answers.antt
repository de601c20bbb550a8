use mathlib.Core.Path.{refl}
use Rattle.base_matrix.proofs.Products.{front_of}
use Rattle.base_matrix.proofs.four_words.Goals as goal

pub returns : goal.returns
returns c =
    let d = c.before in
    let e = d.before in
    let f = e.before in
    (refl, front_of c.args.b.now c.requires c.word_or_zero.ensures c.word_or_zero-2.ensures c.word_or_zero-3.ensures c.word_or_zero-4.ensures)
