use mathlib.Core.Path.{sym}
use native.Mathlib.Omega.{arith}
use borrow.Author.Count.{below_more}
use Rattle.residue.specs.Chosen.{chosen}
use Rattle.verdict.specs.FirstFailure.{row_fails, row_holds}
use Rattle.base_checks.proofs.Products.{base_holds, base_fails}
use Rattle.base_checks.proofs.base.bases.Goals as goal

pub loop-j-init : goal.loop-j-init
loop-j-init c = (omega arith, λ i h. absurd (omega arith))

pub word_at-requires : goal.word_at-requires
word_at-requires c = record { base = c.requires.base; column = omega arith }

pub offset_bounds-bottom-j : goal.offset_bounds-bottom-j
offset_bounds-bottom-j c = omega (arith, c.requires.narrow)

pub bounds-bottom-j : goal.bounds-bottom-j
bounds-bottom-j c = omega (arith, c.requires.size)

pub overflow_cast-place : goal.overflow_cast-place
overflow_cast-place c = omega (arith, c.requires.narrow)

pub returns-then-word-bottom : goal.returns-then-word-bottom
returns-then-word-bottom c =
    let a = c.args in
    let l = c.loop-j in
    sym (row_fails _ _ l.j l.invariant.1 (omega arith) (base_fails (chosen a.field) a.n a.v.now a.g.now a.bottom.now c.requires l.j _ _ (omega arith) c.word.ensures c.word_at.ensures c.if-word-bottom.true))

pub loop-j-preserved : goal.loop-j-preserved
loop-j-preserved c =
    let a = c.args in
    let l = c.loop-j in
    (omega arith, below_more _ _ l.invariant.1 (base_holds (chosen a.field) a.n a.v.now a.g.now a.bottom.now c.requires l.j _ _ (omega arith) c.word.ensures c.word_at.ensures c.if-word-bottom.false))

pub returns : goal.returns
returns c = sym (row_holds _ _ (λ i h. c.loop-j.invariant.1 i (omega arith)))
