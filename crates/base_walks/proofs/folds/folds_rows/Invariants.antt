use Rattle.algebra.specs.WordLists.{elements}
use Rattle.residue.specs.Elements.{F}
use Rattle.residue.specs.Chosen.{chosen}
use Rattle.base_spread.specs.LentRows.{lent_rows}
use Rattle.basefold.specs.Checks.{first_failure}
use Rattle.walks.specs.WalkLaws.{checks_left}
use mathlib.Core.Path.{◌≡◌}
use Rattle.base_walks.proofs.folds.folds_rows.Given as goal

abbrev pub invariant-loop-q : goal.invariant-loop-q
invariant-loop-q l =
    let 𝓕 = chosen l.code.field in
    let left = checks_left (F 𝓕) l.code.low (lent_rows 𝓕 l.code.k l.code.n l.code.g.now l.code.t.now l.code.t2.now) l.code.n l.opened.depth (elements 𝓕 l.opened.block.now) (elements 𝓕 l.opened.r.now) (elements 𝓕 l.opened.opening.now) l.queries in
    first_failure (left 0) ≡ first_failure (left l.q)
