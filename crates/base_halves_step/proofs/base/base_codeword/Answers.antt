use mathlib.Core.Path.{refl, sym, ◌∙◌}
use lib.Seq.{take_at, length-take-le}
use Rattle.base_halves_step.proofs.Copying.{made_length}
use Rattle.base_halves_step.proofs.base.base_codeword.Goals as goal

pub slice_bounds-base_block-end : goal.slice_bounds-base_block-end
slice_bounds-base_block-end c = sym (length-take-le _ _ c.requires.wide)

pub base_block-requires : goal.base_block-requires
base_block-requires c =
    record { lent = c.requires.lent; low = c.requires.low; size = length-take-le _ _ c.requires.wide }

pub returns : goal.returns
returns c =
    let p = c.base_block in
    let sized = p.auto.out ∙ length-take-le _ _ c.requires.wide in
    (made_length c.args.n p.new.out _ sized c.requires.wide refl, take_at p.new.out _ c.args.n sized ∙ p.ensures)
