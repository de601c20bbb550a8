use mathlib.Core.Path.{ap, ◌∙◌}
use Prim.Native.Nat.{◌-◌, ◌/◌, ◌<◌}
use native.Mathlib.Omega.{arith}
use lib.ListN.{length, take, drop, length-take}
use Rattle.residue.specs.Elements.{sum_product}
use Rattle.residue.specs.Chosen.{chosen}
use Rattle.residue.specs.ResidueLaws.{is_low}
use Rattle.polynomial.specs.LentLaws.{lower, length_lower, left_input, right_input}
use Rattle.polynomial.proofs.Values.{lent, summed, monomials_lower, joined}
use Rattle.polynomial.proofs.parts.value_of.Goals as goal

pub of_products-requires : goal.of_products-requires
of_products-requires c =
    let a = c.args in
    let 𝓕 = chosen a.field in
    lent 𝓕 a.w.now a.m.now a.z.now c.requires.0 c.requires.1 (omega arith)

pub returns-then-d-le-LOW : goal.returns-then-d-le-LOW
returns-then-d-le-LOW c =
    let a = c.args in
    let 𝓕 = chosen a.field in
    summed 𝓕 a.w.now a.m.now a.z.now c.requires.0 c.requires.1 (omega arith) c.of_products.ensures

pub slice_bounds-of_products-end-2 : goal.slice_bounds-of_products-end-2
slice_bounds-of_products-end-2 c = simp length-take (omega arith)

pub of_products-l-requires : goal.of_products-l-requires
of_products-l-requires c =
    let a = c.args in
    let 𝓕 = chosen a.field in
    lent 𝓕 a.w.now (take (length a.m.now / 2) a.m.now) (lower a.z.now) (left_input 𝓕 a.m.now a.z.now c.requires.0 (omega arith)) (monomials_lower 𝓕 a.w.now a.z.now (omega arith) c.requires.1) (omega (arith, length_lower 𝓕 a.m.now a.z.now c.requires.0 (omega arith)))

pub of_products-r-requires : goal.of_products-r-requires
of_products-r-requires c =
    let a = c.args in
    let 𝓕 = chosen a.field in
    lent 𝓕 a.w.now (take (length a.m.now - length a.m.now / 2) (drop (length a.m.now / 2) a.m.now)) (lower a.z.now) (right_input 𝓕 a.m.now a.z.now c.requires.0 (omega arith)) (monomials_lower 𝓕 a.w.now a.z.now (omega arith) c.requires.1) (omega (arith, length_lower 𝓕 a.m.now a.z.now c.requires.0 (omega arith)))

pub new-requires : goal.new-requires
new-requires c = c.requires.0.point.low _ (omega arith)

pub plus_product-requires : goal.plus_product-requires
plus_product-requires c =
    let a = c.args in
    let 𝓕 = chosen a.field in (
      is_low 𝓕 _ c.of_products-l.ensures,
      rw c.new.ensures (c.requires.0.point.low _ (omega arith)),
      is_low 𝓕 _ c.of_products-r.ensures,
    )

pub returns : goal.returns
returns c =
    let a = c.args in
    let 𝓕 = chosen a.field in
    let some : 0 < length a.z.now = omega arith in
    let l = c.of_products-l in
    let r = c.of_products-r in
    joined 𝓕 a.m.now a.z.now c.requires.0 some _ _ _ (summed 𝓕 a.w.now (take (length a.m.now / 2) a.m.now) (lower a.z.now) (left_input 𝓕 a.m.now a.z.now c.requires.0 some) (monomials_lower 𝓕 a.w.now a.z.now some c.requires.1) (omega (arith, length_lower 𝓕 a.m.now a.z.now c.requires.0 some)) l.ensures) (summed 𝓕 a.w.now (take (length a.m.now - length a.m.now / 2) (drop (length a.m.now / 2) a.m.now)) (lower a.z.now) (right_input 𝓕 a.m.now a.z.now c.requires.0 some) (monomials_lower 𝓕 a.w.now a.z.now some c.requires.1) (omega (arith, length_lower 𝓕 a.m.now a.z.now c.requires.0 some)) r.ensures)
    (c.plus_product.ensures ∙ ap (λ x. sum_product 𝓕 l.result.0 x r.result.0) c.new.ensures)
