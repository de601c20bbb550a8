-- The padded message (FIPS 180-4, 5.1.1), as bytes. Assumes nothing.
use mathlib.Core.List.{List, [], ◌∷◌, ◌++◌, flat_map}
use Rattle.std.specs.Prelude.{ℕ, ◌*◌, ◌-◌, ◌/◌, ◌%◌, ◌^◌, length, replicate}

-- 3.1: the four bytes of a word, the highest first
unfoldable pub bytes : ℕ → List ℕ
bytes x = x / 2 ^ 24 % 256 ∷ x / 2 ^ 16 % 256 ∷ x / 2 ^ 8 % 256 ∷ x % 256 ∷ []

-- those of several words
unfoldable pub all_bytes : List ℕ → List ℕ
all_bytes xs = flat_map bytes xs

-- 5.1.1: k, the least number of zeros with l + 1 + k ≡ 448 modulo 512, for a message of l bits (see `zeros_solve`, `zeros_least`)
abbrev pub zero_bits : ℕ → ℕ
zero_bits l = (959 - l % 512) % 512

-- 5.1.1: l as a number of 64 bits. The standard is for l below 2 ^ 64; of a greater l the low 64 bits count.
abbrev pub length_words : ℕ → List ℕ
length_words l = l / 2 ^ 32 % 2 ^ 32 ∷ l % 2 ^ 32 ∷ []

-- 5.1.1: THE PADDED MESSAGE: the message, the bit 1, k zeros, and l. The byte 0x80 is the bit 1 and the first seven zeros (see `padded_bits`).
unfoldable pub padded : List ℕ → List ℕ
padded m = m ++ (0x80 ∷ replicate (zero_bits (8 * length m) / 8) 0) ++ all_bytes (length_words (8 * length m))
