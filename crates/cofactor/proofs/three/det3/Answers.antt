use Rattle.residue.specs.ResidueLaws.{is_low}
use Rattle.residue.specs.Elements.{elem}
use Rattle.residue.specs.Chosen.{chosen}
use Rattle.cofactor.proofs.Minors.{three_value}
use Rattle.cofactor.proofs.three.det3.Goals as goal

pub times-s-requires : goal.times-s-requires
times-s-requires c = (c.requires.0.low_a, is_low (chosen c.args.field) _ c.det2-p.ensures)

pub times-t-requires : goal.times-t-requires
times-t-requires c = (c.requires.0.low_b, is_low (chosen c.args.field) _ c.det2-q.ensures)

pub minus-requires : goal.minus-requires
minus-requires c = let 𝓕 = chosen c.args.field in (is_low 𝓕 _ c.times-s.ensures, is_low 𝓕 _ c.times-t.ensures)

pub plus_product-requires : goal.plus_product-requires
plus_product-requires c =
    let 𝓕 = chosen c.args.field in
    (is_low 𝓕 _ c.minus.ensures, c.requires.0.low_c, is_low 𝓕 _ c.det2-r.ensures)

pub returns : goal.returns
returns c =
    let a = c.args in
    let 𝓕 = chosen a.field in
    three_value 𝓕 (elem 𝓕 a.x.a) (elem 𝓕 a.x.b) (elem 𝓕 a.x.c) c.det2-p.ensures c.det2-q.ensures c.det2-r.ensures c.times-s.ensures
    c.times-t.ensures c.minus.ensures c.plus_product.ensures
