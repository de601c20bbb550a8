use mathlib.Core.Path.{refl}
use Rattle.algebra.specs.Words.{𝔽₁}
use Rattle.algebra.specs.WordLists.{modulus_pos}
use Rattle.pairs.specs.Square.{pair_path}
use Rattle.pair.proofs.Pair.real.Goals as goal

pub returns : goal.returns
returns c = record { value = pair_path refl 𝔽₁.words.el_zero; low = record { re_low = c.requires; im_low = modulus_pos 𝔽₁ } }
