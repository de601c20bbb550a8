use native.Mathlib.Omega.{arith}
use Rattle.sha256.proofs.Blocks.{finish_one, finish_two}
use Rattle.sha256.proofs.padding.last_blocks.Goals as goal

pub returns-then-n-lt56 : goal.returns-then-n-lt56
returns-then-n-lt56 c =
    finish_one c.args.m.now _ _ c.begun-b.ensures c.requires (omega arith) c.with_length-c.ensures c.compress.ensures

pub returns : goal.returns
returns c =
    finish_two c.args.m.now _ _ c.begun-b.ensures c.requires (omega arith) c.with_length-c-2.ensures c.compress-t.ensures c.compress-2.ensures
