use mathlib.Core.Path.{◌∙◌}
use Prim.Native.Nat.{◌+◌}
use native.Mathlib.Omega.{arith}
use lib.ListN.{length, get_or}
use Rattle.residue.specs.Elements.{el, elem, word}
use Rattle.residue.specs.Chosen.{chosen}
use Rattle.lines.specs.Steps.{line_by, unscaled}
use Rattle.lines.proofs.draw.line_at.Goals as goal

pub new-u-requires : goal.new-u-requires
new-u-requires c = let p = c.requires.1 in p.block.low c.args.j (omega (arith, p.within, p.whole))

pub new-v-requires : goal.new-v-requires
new-v-requires c = let p = c.requires.1 in p.block.low (length c.args.out.now + c.args.j) (omega (arith, p.within, p.whole))

pub new-requires : goal.new-requires
new-requires c = let p = c.requires.1 in p.low.low c.args.j (omega (arith, p.within, p.first))

pub line-requires : goal.line-requires
line-requires c =
    let p = c.requires.1 in
    let j = c.args.j in (
      c.requires.0,
      rw c.new.ensures (p.low.low j (omega (arith, p.within, p.first))),
      p.inverse,
      rw c.new-u.ensures (p.block.low j (omega (arith, p.within, p.whole))),
      rw c.new-v.ensures (p.block.low (length c.args.out.now + j) (omega (arith, p.within, p.whole))),
    )

pub returns : goal.returns
returns c =
    let a = c.args in
    let 𝓕 = chosen a.field in
    c.line.ensures
    ∙ (λ k. word 𝓕 (line_by 𝓕 (elem 𝓕 a.a) (el 𝓕 (c.new.ensures k)) (unscaled a.field (get_or a.out.now a.j 0)) (el 𝓕 (c.new-u.ensures k)) (el 𝓕 (c.new-v.ensures k))))
