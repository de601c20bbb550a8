use Rattle.algebra.specs.WordLists.{elements}
use Rattle.residue.specs.Elements.{F}
use Rattle.residue.specs.Chosen.{chosen}
use Rattle.base_spread.specs.LentRows.{lent_rows}
use Rattle.walks.specs.WalkLaws.{Walking}
use Rattle.base_walks.proofs.folds.walk.Given as goal

abbrev pub invariant-loop-i : goal.invariant-loop-i
invariant-loop-i l =
    let 𝓕 = chosen l.code.field in
    Walking (F 𝓕) l.code.low (lent_rows 𝓕 l.code.k l.code.n l.code.g.now l.code.t.now l.code.t2.now) l.code.n l.opened.depth (elements 𝓕 l.opened.block.now) (elements 𝓕 l.opened.r.now) (elements 𝓕 l.opened.opening.now) l.q l.u l.i l.at
