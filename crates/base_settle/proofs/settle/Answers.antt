use mathlib.Core.Path.{ap, ◌∙◌}
use native.Mathlib.Omega.{arith}
use lib.ListN.{take, replicate, length-take}
use Rattle.residue.specs.Chosen.{chosen}
use Rattle.base_settle.proofs.Deciding.{found, not_found, front_within}
use Rattle.std.proofs.Common.{not}
use Rattle.base_settle.proofs.settle.Goals as goal

pub is_codeword_rows-requires : goal.is_codeword_rows-requires
is_codeword_rows-requires c = c.requires.0

pub returns-then-not-is_codeword_rows : goal.returns-then-not-is_codeword_rows
returns-then-not-is_codeword_rows c =
    let a = c.args in
    let tried = c.is_codeword_rows in
    let left = c.cleared.ensures in (
      rw left.0 (not_found (chosen a.code.now.field) a.depth a.code.now.k a.code.now.n a.code.now.g.now a.code.now.t.now a.code.now.t2.now a.block.now a.out.now tried.ensures (ap not c.if-not-is_codeword_rows.true)),
      left.1 ∙ ap (λ n. replicate n 0) tried.auto.work,
    )

pub slice_bounds-copy-end : goal.slice_bounds-copy-end
slice_bounds-copy-end c =
    let a = c.args in
    let tried = c.is_codeword_rows in
    omega (arith, front_within (chosen a.code.now.field) a.depth a.code.now.k a.code.now.n a.code.now.g.now a.m.now a.code.now.t.now a.code.now.t2.now a.block.now _ c.requires.0, tried.auto.work, c.requires.1)

pub copy-requires : goal.copy-requires
copy-requires c =
    let a = c.args in
    let tried = c.is_codeword_rows in
    simp length-take (omega (arith, front_within (chosen a.code.now.field) a.depth a.code.now.k a.code.now.n a.code.now.g.now a.m.now a.code.now.t.now a.code.now.t2.now a.block.now _ c.requires.0, tried.auto.work, c.requires.1))

pub returns : goal.returns
returns c =
    let a = c.args in
    let tried = c.is_codeword_rows in
    let left = c.cleared-2.ensures in
    let out = c.copy.ensures ∙ ap (λ n. take n tried.new.work) c.requires.1 in (
      rw left.0 (found (chosen a.code.now.field) a.depth a.code.now.k a.code.now.n a.code.now.g.now a.code.now.t.now a.code.now.t2.now a.block.now a.out.now tried.ensures (ap not c.if-not-is_codeword_rows.false) _ out),
      left.1 ∙ ap (λ n. replicate n 0) tried.auto.work,
    )
