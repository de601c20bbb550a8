use Rattle.std.proofs.Common.{◌≡◌, sym, ap, ◌∙◌, not, eqb, eq-eqb, eqb-true, arith}
use Rattle.algebra.specs.Flags.{goes₂}
use Rattle.job.specs.Sizes.{in_limits, message_size}
use Rattle.base_parameters.specs.Parameters.{row_lengths}
use Rattle.encode.specs.Encoding.{encode_lengths}
use Rattle.encode.proofs.lengths_ok.Goals as goal
use Rattle.encode.proofs.lengths_ok.Goals.{then-lengths_ok, else-lengths_ok}

pub returns-then-m-message_len : goal.returns-then-m-message_len
unfolding encode_lengths
returns-then-m-message_len c =
    let a = c.args in
    elim c.if-lengths_ok.branch [
      | then-lengths_ok w ↦
          let e : a.m ≡ message_size a.p.depth a.p.k0 = omega (arith, eqb-true _ _ (sym w.value-is ∙ c.if-m-message_len.true)) in
          goes₂ (in_limits a.p.depth a.p.rate a.p.k0) (row_lengths a.p.depth a.p.rate a.p.k0 a.g a.t a.t2) c.lengths_ok.ensures (ap not w.if-lengths_ok.true)
          (rw (eq-eqb _ _ e) (ap (eqb a.out) c.block_len.ensures))
      | else-lengths_ok w ↦ cc
    ]
