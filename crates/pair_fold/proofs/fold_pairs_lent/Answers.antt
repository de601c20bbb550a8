use mathlib.Core.Path.{◌∙◌}
use Rattle.algebra.specs.Words.{𝔽₁}
use Rattle.pairs.specs.Root.{no_root₁}
use Rattle.pair.specs.PairWords.{pair_of}
use Rattle.pair_fold.proofs.Room.{part, part_diagonals, begins, lines_lent}
use Rattle.pair_fold.proofs.Straight.{drawn}
use Rattle.pair_fold.proofs.fold_pairs_lent.Goals as goal

pub slice_bounds-invert_gaps-end-2 : goal.slice_bounds-invert_gaps-end-2
slice_bounds-invert_gaps-end-2 c = part 𝔽₁ c.requires.1

pub invert_gaps-requires : goal.invert_gaps-requires
invert_gaps-requires c = part_diagonals 𝔽₁ c.requires.1

pub draw-requires : goal.draw-requires
draw-requires c = (c.requires.0, lines_lent 𝔽₁ c.requires.1 _ c.invert_gaps.ensures)

pub returns : goal.returns
returns c = c.draw.ensures ∙ drawn 𝔽₁ no_root₁ c.requires.1 (pair_of 𝔽₁ c.args.challenge) _ (begins 𝔽₁ c.requires.1 _ c.invert_gaps.ensures)
