-- Depth d, rate c and the k words of a base message: their limits, and the sizes of what a job is lent. Definitions only. Assumes nothing.
use Rattle.std.specs.Prelude.{Bool, ◌&&◌, ◌||◌, cond, ℕ, ◌+◌, ◌*◌, ◌^◌, eqb, leb}
use Rattle.job.specs.Outcome.{Outcome, require, ◌⨾◌}
use Rattle.job.specs.Limits.{rate_ok, max_message, diagonals_size}

-- how many words a base message may have
pub data Size : ℕ → Type 0 where
  one : Size 1
  two : Size 2
  four : Size 4

-- the same as a test
unfoldable pub k0_ok : ℕ → Bool
k0_ok k = (eqb k 1 || eqb k 2) || eqb k 4

-- k where it is legal, else 1
unfoldable pub sound_k : ℕ → ℕ
sound_k k = cond (k0_ok k) k 1

-- a message is no longer than the largest; where k is not legal, the depth is judged as for k = 1
unfoldable pub depth_ok : ℕ → ℕ → Bool
depth_ok k d = leb (sound_k k * 2 ^ d) max_message

abbrev pub limits : ℕ → ℕ → ℕ → Outcome (Unit {0})
limits d c k = require (depth_ok k d) 1 ⨾ require (rate_ok c) 2 ⨾ require (k0_ok k) 13

-- depth and k are legal, as one test: what a job asks that has no rate
abbrev pub size_ok : ℕ → ℕ → Bool
size_ok d k = depth_ok k d && k0_ok k

-- depth, rate and k are legal, as one test
abbrev pub in_limits : ℕ → ℕ → ℕ → Bool
in_limits d c k = depth_ok k d && (rate_ok c && k0_ok k)

-- n_0, the words of a base block; those of a block of level i and of the diagonals below a level are `block_size n_0` and `diagonals_size n_0`
abbrev pub base_size : ℕ → ℕ → ℕ
base_size c k = c * k

-- the words of a message
abbrev pub message_size : ℕ → ℕ → ℕ
message_size d k = k * 2 ^ d

-- the words of the base matrix: k rows of n_0
abbrev pub matrix_size : ℕ → ℕ → ℕ
matrix_size c k = k * base_size c k

-- how many variables are inside the base message: 0, 1 or 2
unfoldable pub low : ℕ → ℕ
low k = cond (eqb k 4) 2 (cond (eqb k 2) 1 0)

-- the words of a point
abbrev pub point_size : ℕ → ℕ → ℕ
point_size d k = d + low k

-- the words of an opening: the rounds, v and the blocks below level d
abbrev pub opening_size : ℕ → ℕ → ℕ → ℕ
opening_size d c k = 3 * d + k + diagonals_size (base_size c k) d
