use Rattle.std.proofs.Common.{◌≡◌, refl, sym, ◌∙◌, eq-eqb, eqb-true, arith}
use Rattle.job.specs.Sizes.{point_size}
use Rattle.open.specs.Writing.{input_lengths}
use Rattle.open.proofs.judge.inputs_ok.Goals as goal
use Rattle.open.proofs.judge.inputs_ok.Goals.{then-m-message_len, else-m-message_len}

pub returns-then-z-point_len : goal.returns-then-z-point_len
unfolding input_lengths
returns-then-z-point_len c =
    let a = c.args in
    elim c.if-m-message_len.branch [
      | then-m-message_len w ↦
          let e : a.z ≡ point_size a.p.depth a.p.k0 = omega (arith, eqb-true _ _ (sym w.value-is ∙ c.if-z-point_len.true)) in
          rw (eq-eqb _ _ (w.if-m-message_len.true ∙ c.message_len.ensures), eq-eqb _ _ e) refl
      | else-m-message_len w ↦ absurd (w.if-m-message_len.false (eqb-true _ _ (sym w.value-is ∙ c.if-z-point_len.true)))
    ]
