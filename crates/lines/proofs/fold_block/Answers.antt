use mathlib.Core.Path.{ap, sym, ◌∙◌}
use Prim.Native.Nat.{◌+◌}
use Rattle.algebra.specs.Lists.{row}
use Rattle.algebra.specs.WordLists.{to_words}
use Rattle.residue.specs.Elements.{elem}
use Rattle.residue.specs.Chosen.{chosen}
use Rattle.lines.specs.Steps.{lines_by}
use Rattle.lines.proofs.Straight.{drawn}
use Rattle.lines.proofs.fold_block.Goals as goal

pub draw-requires : goal.draw-requires
draw-requires c =
    let p = c.requires in
    let made = c.invert_scaled.ensures in
    let same = made.sized in
    (p.5, record { first = p.1 ∙ sym same; whole = p.3 ∙ ap (λ n. n + n) (sym same); low = p.0.low; block = p.4; inverses = made.low })

pub returns : goal.returns
returns c =
    let a = c.args in
    let 𝓕 = chosen a.field in
    let made = c.invert_scaled in
    let s' = made.new.out in
    c.draw.ensures
    ∙ ap (λ n. to_words 𝓕 (row n (lines_by a.field n (elem 𝓕 a.challenge) a.t.now a.block.now s'))) made.ensures.sized
    ∙ drawn a.field c.requires.0 c.requires.1 c.requires.2 a.block.now c.requires.3 a.challenge.0 s' made.ensures
