use mathlib.Core.Path.{ap₂, refl}
use lib.Bits.{bit_xor}
use Rattle.sha256_words.specs.Words.{σ0, SHR}
use Rattle.sha256_words.proofs.small_sigma0.Goals as goal

pub returns : goal.returns
unfolding σ0 SHR
returns c = ap₂ bit_xor (ap₂ bit_xor c.rotr.ensures c.rotr-2.ensures) refl
