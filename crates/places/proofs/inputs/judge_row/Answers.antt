use mathlib.Core.Path.{sym, ◌∙◌}
use mathlib.Core.Bool.{not}
use native.Mathlib.Omega.{arith}
use lib.Dec.{eqb}
use Rattle.places.specs.PlaceLaws.{place_first}
use Rattle.places.proofs.inputs.judge_row.Goals as goal

pub overflow_cast-result : goal.overflow_cast-result
overflow_cast-result c =
    let g = c.args.g.now in
    let w = (place_first (λ x. not (eqb x 0)) g (sym c.none_zero.ensures ∙ c.if-none_zero.false)).within in
    omega (arith, c.first_zero-k.ensures, w)
