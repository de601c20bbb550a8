use mathlib.Core.Path.{◌≡◌}
use native.Mathlib.Omega.{arith}
use Rattle.std.proofs.lemmas.Grind.{common_steps}
use Rattle.hash_parts.proofs.siblings.put_other.Goals as goal

pub returns-then-x-t-eq0 : goal.returns-then-x-t-eq0
returns-then-x-t-eq0 c =
    let other : c.copy_from_slice.new.self ≡ c.args.right.now = c.copy_from_slice.ensures.after in
    grind (arith, common_steps)
