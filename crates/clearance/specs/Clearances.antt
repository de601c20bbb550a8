-- Clearances in micrometres, the residues that stand for them, and what a clearance means. Definitions only. Assumes nothing.
use Rattle.std.specs.Prelude.{Bool, ◌&&◌, cond, ℕ, zero, suc, ◌+◌, ◌-◌, ◌/◌, ltb, ℤ, pos, negsuc, neg_ℤ}
use Rattle.std.specs.Int.Signed.{le_z}
use Rattle.algebra.specs.Words.{PrimeField}

-- from one to another
abbrev pub between : ℤ → ℤ → ℤ → Bool
between low high x = le_z low x && le_z x high

-- by a modulus p: x of 0 or more is the residue x, a negative one is p + x
abbrev pub residue_by : ℕ → ℤ → ℕ
residue_by p (pos n) = n
residue_by p (negsuc n) = p - suc n

-- and by the first residue that is an overlap: the clearance that a residue is
abbrev pub clearance_by : ℕ → ℕ → ℕ → ℤ
clearance_by first p w = cond (ltb w first) (pos w) (neg_ℤ (pos (p - w)))

module _ (𝓕 : PrimeField) where
  open 𝓕 use {modulus as P}

  -- the largest distance, and the first residue that is an overlap
  abbrev pub max_clearance : ℕ
  max_clearance = (P - 1) / 2

  abbrev pub border : ℕ
  border = (P + 1) / 2

  abbrev pub in_range : ℤ → Bool
  in_range x = between (neg_ℤ (pos max_clearance)) (pos max_clearance) x

  abbrev pub residue_of : ℤ → ℕ
  residue_of x = residue_by P x

  abbrev pub clearance_of : ℕ → ℤ
  clearance_of w = clearance_by border P w

-- free with its distance, in contact, or an overlap with its positive amount
pub data Meaning : Type 0 where
  free : ℕ → Meaning
  contact : Meaning
  overlap : ℕ → Meaning

abbrev pub meaning : ℤ → Meaning
meaning (pos zero) = contact
meaning (pos (suc n)) = free (suc n)
meaning (negsuc n) = overlap (suc n)
