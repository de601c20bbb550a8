use Rattle.std.proofs.Common.{sym, ap₂, ◌∙◌, eqb, eq-eqb, eqb-true, arith}
use Rattle.decode.proofs.decode.buffers_ok.Goals as goal
use Rattle.decode.proofs.decode.buffers_ok.Goals.{then-block-n, else-block-n}

pub returns-then-out-message_len : goal.returns-then-out-message_len
returns-then-out-message_len c =
    elim c.if-block-n.branch [
      | then-block-n w ↦
          rw (eq-eqb _ _ (w.if-block-n.true ∙ c.block_len-n.ensures), ← w.message_len.ensures, sym w.value-is ∙ c.if-out-message_len.true)
          (ap₂ eqb (omega arith) c.block_len-n.ensures)
      | else-block-n w ↦ absurd (w.if-block-n.false (eqb-true _ _ (sym w.value-is ∙ c.if-out-message_len.true)))
    ]
