use native.Mathlib.Omega.{arith}
use Rattle.sha256.proofs.Places.{byte_behind}
use Rattle.sha256.proofs.padding.begun.Goals as goal

pub returns : goal.returns
returns c = byte_behind c.args.rest.now 0x80 (omega arith) c.copy_from_slice.ensures.after
