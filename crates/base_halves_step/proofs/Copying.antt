-- A base block in front of an array. Assumes nothing.
use mathlib.Core.Path.{◌≡◌, ◌∙◌}
use mathlib.Core.List.{List, ◌++◌}
use Prim.Native.Nat.{ℕ, ◌≤◌}
use native.Mathlib.Omega.{arith}
use lib.ListN.{length, drop, length-append, length-drop}

-- a block of n words in front of an array of 64
pub made_length : (n : ℕ) (r z : List ℕ) → length r ≡ n → n ≤ 64 → length z ≡ 64 → length (r ++ drop n z) ≡ 64
made_length n r z e h l = length-append r (drop n z) ∙ omega (arith, length-drop n z)
