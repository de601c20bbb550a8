-- Where the diagonals of a level begin, as it is computed. Assumes nothing.
use mathlib.Core.Path.{◌≡◌, ap}
use Prim.Native.Nat.{ℕ, ◌*◌, ◌-◌, ◌^◌}
use Rattle.job.specs.Limits.{diagonals_size}

-- of c words a base block, from m = 2^i
abbrev pub off_at : ℕ → ℕ → ℕ
off_at c m = c * (m - 1)

pub off_is : (c i m : ℕ) → m ≡ 2 ^ i → off_at c m ≡ diagonals_size c i
off_is c i m e = ap (λ x. c * (x - 1)) e
