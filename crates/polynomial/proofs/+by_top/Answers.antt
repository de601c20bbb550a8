use mathlib.Core.Path.{ap, ◌∙◌}
use native.Mathlib.Omega.{arith}
use lib.ListN.{length-take}
use Rattle.residue.specs.Elements.{sum_product}
use Rattle.residue.specs.Chosen.{chosen}
use Rattle.residue.specs.ResidueLaws.{is_low}
use Rattle.polynomial.specs.LentLaws.{length_lower, left_input, right_input}
use Rattle.polynomial.proofs.Values.{monomials_lower, joined}
use Rattle.polynomial.proofs.+by_top.Goals as goal

pub value_of-requires : goal.value_of-requires
value_of-requires t c =
    (c.requires.0, c.requires.1, omega arith)

pub returns-then-d : goal.returns-then-d
returns-then-d t c = c.value_of.ensures

pub slice_bounds-by_top-end : goal.slice_bounds-by_top-end
slice_bounds-by_top-end t c = simp length-take (omega arith)

pub slice_bounds-by_top-end-2 : goal.slice_bounds-by_top-end-2
slice_bounds-by_top-end-2 t c = simp length-take (omega arith)

pub by_top-l-requires : goal.by_top-l-requires
by_top-l-requires t c =
    let a = c.args in
    let 𝓕 = chosen a.field in (
      omega (arith, length_lower 𝓕 a.m.now a.z.now c.requires.0 (omega arith)),
      (left_input 𝓕 a.m.now a.z.now c.requires.0 (omega arith), monomials_lower 𝓕 a.w.now a.z.now (omega arith) c.requires.1),
    )

pub slice_bounds-by_top-end-4 : goal.slice_bounds-by_top-end-4
slice_bounds-by_top-end-4 t c = simp length-take (omega arith)

pub by_top-r-requires : goal.by_top-r-requires
by_top-r-requires t c =
    let a = c.args in
    let 𝓕 = chosen a.field in (
      omega (arith, length_lower 𝓕 a.m.now a.z.now c.requires.0 (omega arith)),
      (right_input 𝓕 a.m.now a.z.now c.requires.0 (omega arith), monomials_lower 𝓕 a.w.now a.z.now (omega arith) c.requires.1),
    )

pub new-requires : goal.new-requires
new-requires t c = c.requires.0.point.low _ (omega arith)

pub plus_product-requires : goal.plus_product-requires
plus_product-requires t c = let 𝓕 = chosen c.args.field in (
  omega (arith, is_low 𝓕 _ c.by_top-l.ensures),
  rw c.new.ensures (c.requires.0.point.low _ (omega arith)),
  omega (arith, is_low 𝓕 _ c.by_top-r.ensures),
)

pub returns : goal.returns
returns t c =
    let a = c.args in
    let 𝓕 = chosen a.field in
    joined 𝓕 a.m.now a.z.now c.requires.0 (omega arith) _ _ _ c.by_top-l.ensures c.by_top-r.ensures
    (c.plus_product.ensures ∙ ap (λ x. sum_product 𝓕 c.by_top-l.result.0 x c.by_top-r.result.0) c.new.ensures)
