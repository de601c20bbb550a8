-- A word that stands for an element: it is below the modulus, and gives the element back. Assumes nothing.
use Rattle.std.specs.Prelude.{◌≡◌, ℕ, ◌<◌}
use Rattle.std.proofs.Common.{ap, ◌∙◌}
use Rattle.algebra.specs.Words.{PrimeField}

module _ (𝓕 : PrimeField) where
  open 𝓕 use {modulus as P, field as F, words as W}
  open F use {ring as K}
  open K use {R as Element}
  open W use {el, val as word, val_lt, el_val}

  pub is_low : {w : ℕ} (v : Element) → w ≡ word v → w < P
  is_low v e = rw e (val_lt v)

  pub stands : {w : ℕ} (v : Element) → w ≡ word v → el w ≡ v
  stands v e = ap el e ∙ el_val v
