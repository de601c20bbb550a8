use mathlib.Core.Path.{◌≡◌}
use Prim.Native.Nat.{◌+◌, ◌*◌}
use native.Mathlib.Omega.{arith}
use lib.ListN.{get_or}
use Rattle.std.proofs.lemmas.Grind.{common_steps}
use Rattle.hash_path.specs.Word.{low_word}
use Rattle.hash_path.proofs.bytes.word_at.Goals as goal

pub returns : goal.returns
unfolding low_word
returns c =
    let bs = c.args.bytes.now in
    let at = c.args.at in
    let four : c.from_le_bytes.result ≡ get_or bs at 0 + 256 * get_or bs (at + 1) 0 + 65536 * get_or bs (at + 2) 0 + 16777216 * get_or bs (at + 3) 0 = omega arith in
    grind (arith, common_steps)
