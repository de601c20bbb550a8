use Prim.Native.Nat.{◌+◌, ◌*◌}
use lib.ListN.{set}
use Rattle.pair.proofs.store.Goals as goal

pub returns : goal.returns
returns c =
    let a = c.args in
    λ k. set (set a.s.now (2 * a.j) (c.word.ensures k)) (2 * a.j + 1) (c.word-2.ensures k)
