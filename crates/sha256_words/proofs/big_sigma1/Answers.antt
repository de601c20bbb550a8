use mathlib.Core.Path.{ap₂}
use lib.Bits.{bit_xor}
use Rattle.sha256_words.specs.Words.{Σ1}
use Rattle.sha256_words.proofs.big_sigma1.Goals as goal

pub returns : goal.returns
unfolding Σ1
returns c = ap₂ bit_xor (ap₂ bit_xor c.rotr.ensures c.rotr-2.ensures) c.rotr-3.ensures
