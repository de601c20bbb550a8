-- Where blocks begin and end, as it is computed. Assumes nothing.
use mathlib.Core.Path.{◌≡◌, sym, ap, ap₂, ◌∙◌}
use mathlib.Core.List.{List}
use Prim.Native.Nat.{ℕ, suc, ◌+◌, ◌*◌, ◌-◌, ◌^◌, ◌≤◌, ◌<◌}
use native.Mathlib.Nat.{mul-le-mul, mul-add, add_assoc}
use native.Mathlib.Numerals.{add-one}
use native.Mathlib.Omega.{arith}
use lib.ListN.{take, drop}
use lib.Pow.{pow_mono, pow_pos}
use Rattle.basefold.specs.Layout.{final_at, block_at, opening_size}
use Rattle.job.specs.Limits.{max_depth, diagonals_size, max_message}
use Rattle.job.specs.LimitLaws.{power_most}
use Rattle.undo.specs.Steps.{longest_base}

-- a block of the opening and those below it are the last words of it
rest_is : (c low d i : ℕ) → i < d → block_at c low d i + diagonals_size c (i + 1) ≡ opening_size c low d
rest_is c low d i h =
    let same : diagonals_size c (i + 1) ≡ diagonals_size c (suc i) = ap (diagonals_size c) (add-one i) in
    let p : 2 ^ suc i ≤ 2 ^ d = pow_mono h in
    let q : (2 ^ d - 2 ^ suc i) + (2 ^ suc i - 1) ≡ 2 ^ d - 1 = omega (arith, pow_pos (suc i)) in
    ap (λ n. block_at c low d i + n) same
    ∙ add_assoc (final_at d + 2 ^ low) (c * (2 ^ d - 2 ^ suc i)) (c * (2 ^ suc i - 1))
    ∙ ap (λ n. final_at d + 2 ^ low + n) (sym (mul-add c (2 ^ d - 2 ^ suc i) (2 ^ suc i - 1)) ∙ ap (λ n. c * n) q)

pub start_is : (c low d i : ℕ) {p n : ℕ} → i < d → p + diagonals_size c (i + 1) ≡ n → n ≡ opening_size c low d → p ≡ block_at c low d i
start_is c low d i h e l = omega (arith, rest_is c low d i h)

pub rest_within : (c low d i : ℕ) {n : ℕ} → i < d → n ≡ opening_size c low d → diagonals_size c (i + 1) ≤ n
rest_within c low d i h l = omega (arith, rest_is c low d i h)

-- the longest block, and less than it
pub product_most : (n a : ℕ) → n ≤ longest_base → a ≤ max_message → n * a ≤ longest_base * max_message
product_most n a h l = mul-le-mul h l

pub size_most : (n d : ℕ) {m : ℕ} → n ≤ longest_base → d ≤ max_depth → m ≡ 2 ^ d → n * m ≤ longest_base * max_message
size_most n d {m} h l e = product_most n m h (omega (arith, power_most d l))

pub less_most : (n d b : ℕ) {m : ℕ} → n ≤ longest_base → d ≤ max_depth → m ≡ 2 ^ d → n * (m - b) ≤ longest_base * max_message
less_most n d b {m} h l e = product_most n (m - b) h (omega (arith, power_most d l))

-- k words from p on, as they are taken by where they begin and end
pub part_is : (k p : ℕ) (o : List ℕ) {start : ℕ} → start ≡ p → take (start + k - start) (drop start o) ≡ take k (drop p o)
part_is k p o {start} e =
    let same : start + k - start ≡ k = omega arith in
    ap₂ (λ a b. take a (drop b o)) same e
