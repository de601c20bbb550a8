-- Words of 32 bits, as numbers below 2 ^ 32 (FIPS 180-4). Assumes nothing.
use Rattle.std.specs.Prelude.{List, ℕ, ◌+◌, ◌*◌, ◌-◌, ◌/◌, ◌%◌, ◌^◌, get_or}
use Rattle.std.specs.Int.Bits.{bit_and, bit_or, bit_xor}

infixl 65 ◌⊞◌
-- 2.2.2: addition modulo 2 ^ 32, and bitwise complement
abbrev pub ◌⊞◌ : ℕ → ℕ → ℕ
x ⊞ y = (x + y) % 2 ^ 32

unfoldable pub complement : ℕ → ℕ
complement x = (2 ^ 32 - 1) - x

-- 3.2: right shift by n bits, and right rotation: the right shift by n or the left shift by 32 - n
unfoldable pub SHR : ℕ → ℕ → ℕ
SHR n x = x / 2 ^ n

unfoldable pub ROTR : ℕ → ℕ → ℕ
ROTR n x = bit_or (x / 2 ^ n) (x * 2 ^ (32 - n) % 2 ^ 32)

-- 4.1.2, (4.2) and (4.3)
unfoldable pub Ch : ℕ → ℕ → ℕ → ℕ
Ch x y z = bit_xor (bit_and x y) (bit_and (complement x) z)

unfoldable pub Maj : ℕ → ℕ → ℕ → ℕ
Maj x y z = bit_xor (bit_xor (bit_and x y) (bit_and x z)) (bit_and y z)

-- 4.1.2, (4.4) to (4.7)
unfoldable pub Σ0 : ℕ → ℕ
Σ0 x = bit_xor (bit_xor (ROTR 2 x) (ROTR 13 x)) (ROTR 22 x)

unfoldable pub Σ1 : ℕ → ℕ
Σ1 x = bit_xor (bit_xor (ROTR 6 x) (ROTR 11 x)) (ROTR 25 x)

unfoldable pub σ0 : ℕ → ℕ
σ0 x = bit_xor (bit_xor (ROTR 7 x) (ROTR 18 x)) (SHR 3 x)

unfoldable pub σ1 : ℕ → ℕ
σ1 x = bit_xor (bit_xor (ROTR 17 x) (ROTR 19 x)) (SHR 10 x)

-- 3.1: the word whose four bytes stand at place i of a list, the highest first
unfoldable pub word_at : List ℕ → ℕ → ℕ
word_at l i = get_or l i 0 * 2 ^ 24 + get_or l (i + 1) 0 * 2 ^ 16 + get_or l (i + 2) 0 * 2 ^ 8 + get_or l (i + 3) 0
