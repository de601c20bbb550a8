use Rattle.lines.specs.Steps.{line_by, unscaled, lines_by}
use Rattle.residue.specs.Elements.{el, elem, word}
use Rattle.residue.specs.Chosen.{chosen}
use Prim.Native.Nat.{◌+◌}
use lib.ListN.{length, get_or}
use mathlib.Core.Path.{ap, sym, ◌∙◌}
use Rattle.inversion.specs.InversionLaws.{length_rows, get_or_rows}
use Rattle.algebra.specs.Filling.{filled_none, filled_turn, filled_end, filled_length, filled_old}
use native.Mathlib.Omega.{arith}
use Rattle.lines.proofs.draw.draw.Goals as goal

pub loop-j-init : goal.loop-j-init
loop-j-init c = (omega arith, omega arith, filled_none _ _)

pub line_at-requires : goal.line_at-requires
line_at-requires c =
    let l = c.loop-j in
    let p = c.requires.1 in
    let same = l.invariant.1 in (
      c.requires.0,
      record {
        within = omega arith;
        first = p.first ∙ sym same;
        whole = p.whole ∙ ap (λ n. n + n) (sym same);
        low = p.low;
        block = p.block;
        inverse = rw (filled_old l.invariant.2 l.j 0 (omega arith)) (p.inverses.low l.j (omega arith));
      },
    )

pub loop-j-preserved : goal.loop-j-preserved
loop-j-preserved c =
    let a = c.args in
    let 𝓕 = chosen a.field in
    let l = c.loop-j in
    let n = length a.out.now in
    let f = lines_by a.field n (elem 𝓕 a.challenge) a.t.now a.block.now a.out.now in
    let old = filled_old l.invariant.2 l.j 0 (omega arith) in
    let v =
    c.word.ensures ∙ c.line_at.ensures
    ∙ (λ k. word 𝓕 (line_by 𝓕 (elem 𝓕 a.challenge) (el 𝓕 (get_or a.t.now l.j 0)) (unscaled a.field (old k)) (el 𝓕 (get_or a.block.now l.j 0)) (el 𝓕 (get_or a.block.now (l.invariant.1 k + l.j) 0))))
    ∙ sym (get_or_rows 𝓕 n f l.j (omega arith)) in
    let p = filled_turn 0 (omega arith) (length_rows 𝓕 n f) l.invariant.2 v in
    (omega arith, filled_length p, p)

pub returns : goal.returns
returns c = let l = c.loop-j in filled_end (omega arith) (length_rows (chosen c.args.field) _ _) l.invariant.2
