use mathlib.Core.Path.{◌≡◌, ap₂, ◌∙◌}
use mathlib.Core.List.{◌++◌}
use native.Mathlib.Omega.{arith}
use lib.ListN.{length}
use Rattle.residue.specs.Chosen.{chosen}
use Rattle.lines.specs.Behind.{block_before}
use Rattle.lines.specs.Folds.{fold_words}
use Rattle.lines.proofs.behind.fold_behind.Goals as goal

pub returns : goal.returns
returns c =
    let a = c.args in
    let s = c.split_at_mut-block in
    let n : length s.result.1.now ≡ length a.t.now = omega (arith, s.ensures.back_len, c.requires.1.whole) in
    let front : s.result.0.now ≡ block_before a.t.now a.w.now = s.ensures.front in
    ap₂ ◌++◌ front (c.fold_block.ensures ∙ ap₂ (λ k b. fold_words (chosen a.field) k a.t.now a.t2.now b a.challenge.0) n front)
