-- The field that is chosen, and what holds in both. Assumes nothing.
use Rattle.std.specs.Prelude.{◌≡◌, ℕ, ◌+◌, ◌*◌, ◌/◌, ◌%◌, ◌^◌, ◌<◌, ◌≤◌}
use Rattle.std.proofs.Common.{ap, ◌∙◌, arith}
use Rattle.algebra.specs.Words.{PrimeField, 𝔽₁, 𝔽₂}
use Rattle.algebra.specs.WordLaws.{is_word}
use Rattle.algebra.specs.Half.{half_el}
use Rattle.residue.specs.declared.Field.{Field as Choice}
use Rattle.residue.specs.declared.Field.TheVariants.{First, Second}
use Rattle.residue.specs.Elements.{P, el, word, half}

-- the integers modulo 2147483647, or modulo 2013265921
abbrev pub chosen : Choice → PrimeField
chosen First = 𝔽₁
chosen Second = 𝔽₂

-- twice the modulus fits 32 bits
pub most : (f : Choice) → P (chosen f) ≤ 2147483647
most First = omega arith
most Second = omega arith

-- what is below 2^60 can be reduced
pub least_square : (f : Choice) → 2 ^ 60 ≤ P (chosen f) * P (chosen f)
least_square First = omega arith
least_square Second = omega arith

-- and that fits 64 bits
pub most_square : (f : Choice) → P (chosen f) * P (chosen f) ≤ 2 ^ 62
most_square First = omega arith
most_square Second = omega arith

-- the residue of 2^31
shift_is : (𝓕 : PrimeField) (k : ℕ) → k < P 𝓕 → 2 ^ 31 % P 𝓕 ≡ k % P 𝓕 → word 𝓕 (el 𝓕 (2 ^ 31)) ≡ k
shift_is 𝓕 k h e = ap (word 𝓕) (𝓕.words.el_same (2 ^ 31) k e) ∙ 𝓕.words.val_el k h

-- it is small: its product with any other leaves room for 2^54 below the square of the modulus
pub shift_room : (f : Choice) (h lo : ℕ) → h < P (chosen f) → lo < 2 ^ 54 → lo + word (chosen f) (el (chosen f) (2 ^ 31)) * h < P (chosen f) * P (chosen f)
shift_room First h lo l k = rw (shift_is 𝔽₁ 1 (omega arith) (omega arith)) (omega arith)
shift_room Second h lo l k = rw (shift_is 𝔽₂ 134217727 (omega arith) (omega arith)) (omega arith)

-- the word of 1 / 2
pub half_is : (𝓕 : PrimeField) (w : ℕ) → w ≡ (P 𝓕 + 1) / 2 → w ≡ word 𝓕 (half 𝓕)
half_is 𝓕 w e = is_word (P 𝓕) 𝓕.field.ring 𝓕.words w (half 𝓕) (omega (arith, 𝓕.above)) (ap (el 𝓕) e ∙ half_el 𝓕)
