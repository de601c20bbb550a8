-- SHA-256 of a list of bytes (FIPS 180-4, 6.2). Assumes nothing.
use Rattle.std.specs.Prelude.{List, [], ◌∷◌, ℕ, zero, suc, ◌*◌, ◌/◌, length, take, drop}
use Rattle.sha256_block.specs.Constants.{H₀}
use Rattle.sha256_block.specs.Compression.{compressed}
use Rattle.sha256_block.specs.declared.State.{State}
use Rattle.sha256.specs.Padding.{all_bytes, padded}

-- 5.2.1: M(i + 1), the block of 512 bits at place i of a padded message
abbrev pub block : List ℕ → ℕ → List ℕ
block l i = take 64 (drop (64 * i) l)

-- 6.2.2: H(i), the hash value after the first i blocks
unfoldable pub hashed : List ℕ → ℕ → State
hashed l zero = H₀
hashed l (suc i) = compressed (hashed l i) (block l i)

-- 6.2.2: its words H_0 to H_7
abbrev pub state_words : State → List ℕ
state_words s = s.a ∷ s.b ∷ s.c ∷ s.d ∷ s.e ∷ s.f ∷ s.g ∷ s.h ∷ []

-- 6.2.2: THE DIGEST, H_0 to H_7 after the last block, as 32 bytes
unfoldable pub digest : List ℕ → List ℕ
digest m = all_bytes (state_words (hashed (padded m) (length (padded m) / 64)))
