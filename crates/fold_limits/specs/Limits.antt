-- Which levels can be folded, and the lengths that a fold is lent. Definitions only. Assumes nothing.
use Rattle.std.specs.Prelude.{Bool, ◌&&◌, ℕ, ◌-◌, leb, eqb}
use Rattle.job.specs.Limits.{rate_ok, block_size}
use Rattle.job.specs.Sizes.{k0_ok, depth_ok}

-- the upper level: at least 1, and within the limit of a depth
unfoldable pub level_ok : ℕ → ℕ → Bool
level_ok k level = leb 1 level && depth_ok k level

-- level, rate and the words of a base message, as one test
abbrev pub fold_limits : ℕ → ℕ → ℕ → Bool
fold_limits level rate k = level_ok k level && (rate_ok rate && k0_ok k)

-- the numbers of words lent, with base blocks of n words: n_i for T_i, for T'_i and for the result, n_(i+1) for the block
unfoldable pub lengths_ok : ℕ → ℕ → ℕ → ℕ → ℕ → ℕ → Bool
lengths_ok level n t t2 block out =
    eqb t (block_size n (level - 1))
    && (eqb t2 (block_size n (level - 1))
    && (eqb block (block_size n level)
    && eqb out (block_size n (level - 1))))
