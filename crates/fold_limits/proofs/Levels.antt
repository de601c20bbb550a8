-- What the tests of level, rate and k0 say. Assumes nothing.
use mathlib.Core.Path.{◌≡◌, ap₂}
use mathlib.Core.Bool.{true, ◌&&◌}
use Prim.Native.Nat.{ℕ, ◌≤◌}
use lib.Dec.{leb}
use borrow.Author.Tests.{leb-true}
use Rattle.algebra.specs.Tests.{and_both}
use Rattle.job.specs.Limits.{rate_ok}
use Rattle.job.specs.Sizes.{k0_ok, depth_ok, in_limits}
use Rattle.fold_limits.specs.Limits.{level_ok, fold_limits}

-- a level that can be folded is a depth of at least 1
pub level_depth : (k level : ℕ) → level_ok k level ≡ true → (1 ≤ level) × (depth_ok k level ≡ true)
unfolding level_ok
level_depth k level e =
    let b = and_both (leb 1 level) (depth_ok k level) e in
    (leb-true 1 level b.0, b.1)

pub legal : (level rate k : ℕ) → fold_limits level rate k ≡ true → (1 ≤ level) × (in_limits level rate k ≡ true)
legal level rate k e =
    let b = and_both (level_ok k level) (rate_ok rate && k0_ok k) e in
    let l = level_depth k level b.0 in
    (l.0, ap₂ ◌&&◌ l.1 b.1)
