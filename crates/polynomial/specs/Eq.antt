-- eq of one variable. Definitions only. Assumes nothing.
use Rattle.algebra.specs.Words.{PrimeField}

module _ (𝓕 : PrimeField) where
  infixl 65 ◌⊞◌
  infixl 65 ◌⊟◌
  infixl 70 ◌⊠◌
  open 𝓕 use {field as F}
  open F use {ring as K}
  open K use {R as Element, ◌+◌ as ◌⊞◌, ◌*◌ as ◌⊠◌, ◌-◌ as ◌⊟◌}

  -- eq of several variables is the product of these
  abbrev pub factor : Element → Element → Element
  factor z x = z ⊠ x ⊞ (K.𝟙 ⊟ z) ⊠ (K.𝟙 ⊟ x)
