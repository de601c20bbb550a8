-- Which lengths a table may have, and the depth of one. Definitions only. Assumes nothing.
use Rattle.std.specs.Prelude.{Bool, ◌||◌, ◌&&◌, cond, ℕ, zero, suc, ◌^◌, eqb, leb}
use Rattle.job.specs.Limits.{max_depth}
use Rattle.job.specs.Sizes.{sound_k}

-- n is one of 2^0, .., 2^k, and then the d with n = 2^d
unfoldable pub is_power_to : ℕ → ℕ → Bool
is_power_to zero n = eqb n 1
is_power_to (suc k) n = eqb n (2 ^ suc k) || is_power_to k n

unfoldable pub exponent_to : ℕ → ℕ → ℕ
exponent_to zero n = 0
exponent_to (suc k) n = cond (eqb n (2 ^ suc k)) (suc k) (exponent_to k n)

-- a power of two, up to that of the largest depth
abbrev pub is_power : ℕ → Bool
is_power n = is_power_to max_depth n

abbrev pub exponent : ℕ → ℕ
exponent n = exponent_to max_depth n

-- a table has k 2^d entries, at most as many as the largest message has words; where k is not legal, it is judged as for k = 1
unfoldable pub table_ok : ℕ → ℕ → Bool
table_ok k n = is_power n && leb (sound_k k) n
