use mathlib.Core.Path.{◌≡◌}
use native.Mathlib.Omega.{arith}
use Rattle.std.proofs.lemmas.Grind.{common_steps}
use Rattle.hash_parts.specs.Queries.{leaves, leaf_bytes}
use Rattle.hash_parts.proofs.leaf_words.put_leaf.Goals as goal

pub returns : goal.returns
unfolding leaf_bytes
returns c =
    let w = c.args.block.now in
    let bytes : c.pair_bytes-b.result ≡ leaf_bytes (leaves w) w c.args.j = c.pair_bytes-b.ensures in
    grind (arith, common_steps)
