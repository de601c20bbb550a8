use Prim.Native.Nat.{◌-◌}
use native.Mathlib.Omega.{arith}
use Rattle.residue.specs.Chosen.{chosen}
use Rattle.base_halves.proofs.Checking.{lent_compared, top_down, top_next}
use Rattle.base_halves.proofs.same.same_codeword_rows.Goals as goal

pub returns-then-depth-eq0 : goal.returns-then-depth-eq0
returns-then-depth-eq0 c =
    let a = c.args in
    let x = c.base_codeword-made in
    lent_compared (chosen a.code.now.field) a.depth a.code.now.k a.code.now.n a.code.now.g.now a.code.now.t.now a.code.now.t2.now a.block.now a.work.now c.requires (omega arith) x.result x.ensures c.same_words.result c.same_words.ensures

pub top_step-requires : goal.top_step-requires
top_step-requires c =
    let a = c.args in
    let q = c.message_len in
    top_down (chosen a.code.now.field) a.depth a.code.now.k a.code.now.n a.code.now.g.now a.code.now.t.now a.code.now.t2.now a.block.now a.work.now c.requires (a.depth - 1) q.result (omega arith) q.ensures

pub check-requires : goal.check-requires
check-requires c =
    let a = c.args in
    let q = c.message_len in
    let p = c.top_step in
    top_next (chosen a.code.now.field) a.depth a.code.now.k a.code.now.n a.code.now.g.now a.code.now.t.now a.code.now.t2.now a.block.now a.work.now c.requires (a.depth - 1) q.result (omega arith) q.ensures p.result p.new.work p.auto.work p.ensures
